-- Places of an axis by one subscript that moves along it.
use Rattle.std.proofs.Common.{◌≡◌, ℕ, ◌+◌, ◌-◌, ◌<◌, ◌≤◌, ◌&&◌, true, List, length, nat_le, nat_lt, get_or, ℤ, pos, ◌+ℤ◌, ◌*ℤ◌, sym, ◌∙◌, ap, arith}
use Rattle.std.proofs.lemmas.Int.{ints}
use Rattle.std.proofs.lemmas.List.{get_or_default}
use Rattle.std.proofs.Math.IntN.{*ℤ_comm}
use Rattle.std.specs.Option.{is_some}
use Rattle.hpf_base.specs.Grid.{node_coordinates}
use Rattle.hpf_base.proofs.Integers.{sum-*ℤ}
use Rattle.gap_table.proofs.Spans.{between_holds, between_true}
use Rattle.mappings.specs.declared.mapping.Mapping.{Mapping}
use Rattle.expression_rules.specs.declared.dims.Dim.{Dim}
use Rattle.array_meaning.specs.State.{offset}
use Rattle.courses.specs.AxisTables.{subscript_on}
use Rattle.courses.specs.Subscripts.{along_dims, in_dim, no_dim}
use Rattle.owned_places.specs.Dims.{held_dim}
use Rattle.owned_places.proofs.HeldDims.{and-parts}
use Rattle.owned_places.proofs.KeptPlaces.{PassesWithin}

-- the places at which it is in bounds
abbrev pub InBoundsBetween : List Dim → ℕ → ℤ → ℤ → ℕ → ℕ → ℕ → Type 0
InBoundsBetween ds k first step extent begin end = (x : ℕ) → x < extent → in_dim ds k (subscript_on first step x) ≡ (nat_le begin x && nat_lt x end)

pub in-bounds-between : (ds : List Dim) (k : ℕ) (d : Dim) (first first' step step' : ℤ) (extent begin end : ℕ) → k < length ds → first' ≡ first → step' ≡ step
    → ((x : ℕ) → x < extent → is_some (offset (get_or ds k d) (subscript_on first' step' x)) ≡ (nat_le begin x && nat_lt x end))
    → InBoundsBetween ds k first step extent begin end
in-bounds-between ds k d first first' step step' extent begin end within first-is step-is places = λ x below.
    (λ n. is_some (offset (get_or_default ds k no_dim d within n) (subscript_on (sym first-is n) (sym step-is n) x))) ∙ places x below

pub held-within : (ds : List Dim) (m : Mapping) (node k : ℕ) (first step : ℤ) (extent begin end : ℕ) → InBoundsBetween ds k first step extent begin end
    → PassesWithin (λ x. held_dim ds m node k (subscript_on first step x)) extent begin (end - begin)
held-within ds m node k first step extent begin end places = λ x below held.
    let w = between_true begin end x (sym (places x below) ∙ (and-parts _ _ held).0) in
    (w.0, omega (arith, w.0, w.1))

-- counted from the first of them
pub moved : (first step : ℤ) (begin j : ℕ) → subscript_on first step (begin + j) ≡ subscript_on (subscript_on first step begin) step j
moved first step begin j =
    let split : step *ℤ pos (begin + j) ≡ (step *ℤ pos begin) +ℤ (step *ℤ pos j) =
    *ℤ_comm step (pos (begin + j)) ∙ ap (λ z. z *ℤ step) (let s : pos (begin + j) ≡ pos begin +ℤ pos j = omega (arith, ints) in s) ∙ sum-*ℤ (pos begin) (pos j) step
    ∙ ap (λ z. z +ℤ (pos j *ℤ step)) (*ℤ_comm (pos begin) step) ∙ ap (λ z. (step *ℤ pos begin) +ℤ z) (*ℤ_comm (pos j) step) in
    omega (arith, ints, split)

pub inside-at : (ds : List Dim) (k : ℕ) (first step : ℤ) (extent begin end j : ℕ) → InBoundsBetween ds k first step extent begin end → end ≤ extent → j < end - begin
    → in_dim ds k (subscript_on (subscript_on first step begin) step j) ≡ true
inside-at ds k first step extent begin end j places fits below =
    ap (in_dim ds k) (sym (moved first step begin j)) ∙ places (begin + j) (omega (arith, below, fits))
    ∙ between_holds begin end (begin + j) (omega arith) (omega (arith, below))

-- where it is in bounds the entries decide
pub held-along : (ds : List Dim) (m : Mapping) (node k : ℕ) (first step : ℤ) (extent begin end j : ℕ) → InBoundsBetween ds k first step extent begin end → end ≤ extent
    → j < end - begin
    → held_dim ds m node k (subscript_on first step (begin + j)) ≡ along_dims (node_coordinates m.grid node) m.dims k (subscript_on first step (begin + j))
held-along ds m node k first step extent begin end j places fits below =
    ap (λ t. t && along_dims (node_coordinates m.grid node) m.dims k (subscript_on first step (begin + j)))
    (places (begin + j) (omega (arith, below, fits)) ∙ between_holds begin end (begin + j) (omega arith) (omega (arith, below)))

pub held-inside : (ds : List Dim) (m : Mapping) (node k : ℕ) (first step : ℤ) (extent begin end j : ℕ) → InBoundsBetween ds k first step extent begin end → end ≤ extent
    → j < end - begin → along_dims (node_coordinates m.grid node) m.dims k (subscript_on first step (begin + j)) ≡ true
    → held_dim ds m node k (subscript_on first step (begin + j)) ≡ true
held-inside ds m node k first step extent begin end j places fits below along =
    held-along ds m node k first step extent begin end j places fits below ∙ along
