-- Laws on places that are expected to repeat.
use Rattle.std.proofs.Common.{◌≡◌, ℕ, ◌<◌, ◌≤◌, ◌/◌, ◌%◌, if◌then◌else◌, List, sym, ◌∙◌, ap, arith, length, map, get_or}
use Rattle.std.proofs.lemmas.Bool.{lt-ltb}
use Rattle.std.proofs.lemmas.List.{get_or_default, same_lists}
use Rattle.std.proofs.lemmas.List.FromFn.{get_or-map-range_with_len, length-map-range_with_len}
use Rattle.std.specs.List.{range_with_len}
use Rattle.periodic_runs.specs.declared.runs.Place.{Place}
use Rattle.periodic_runs.specs.Periods.{expected, later}
use Rattle.periodic_runs.specs.Runs.{no_place}

-- no more places than a period are the first ones
pub first-places : (front : List Place) (gains : List ℕ) (period len : ℕ) → len ≤ period → length front ≡ len
    → map (expected front gains period) (range_with_len 0 len) ≡ front
first-places front gains period len few is = same_lists _ _
    (length-map-range_with_len (expected front gains period) 0 len ∙ sym is)
    (λ k d below.
    let inside : k < len = omega (arith, below, length-map-range_with_len (expected front gains period) 0 len) in
    get_or-map-range_with_len (expected front gains period) 0 len k k d inside (omega arith)
    ∙ ap (λ t. if t then get_or front k no_place else later gains (k / period) (get_or front (k % period) no_place)) (lt-ltb k period (omega (arith, inside, few)))
    ∙ get_or_default front k no_place d (omega (arith, inside, is)))
