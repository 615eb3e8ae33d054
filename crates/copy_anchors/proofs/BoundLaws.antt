-- Subscripts in bounds at the first two positions of an axis, and at both ends.
use Rattle.std.proofs.Common.{◌≡◌, ℕ, ◌<◌, ◌≤◌, Bool, true, false, ◌&&◌, if◌then◌else◌, int_le, int_lt, nat_le, ℤ, pos, ◌+ℤ◌, ◌-ℤ◌, ◌*ℤ◌, ◌≤ℤ◌, ◌<ℤ◌, List, length, get_or, Option, Some, None, refl, sym, ◌∙◌, subst, arith}
use Rattle.std.proofs.lemmas.Bool.{and_from, lt-ltb, true≢false}
use Rattle.std.proofs.lemmas.Int.{ints}
use Rattle.mappings.specs.declared.mapping.AlignDim.TheVariants.{Linear, At}
use Rattle.aligned_copies.specs.Beside.{is_in}
use Rattle.aligned_copies.proofs.Inside.{between, in-bounds}
use Rattle.copy_anchors.specs.Anchors.{along}
use Rattle.copy_anchors.specs.Settled.{inside_along, inside_subscript}
use lib.Dec.{T}

T-true : (b : Bool) → T b → b ≡ true
T-true true t = refl
T-true false t = absurd t

bounds-in : (lower extent i : ℤ) → lower ≤ℤ i → i <ℤ (lower +ℤ extent) → is_in lower extent i ≡ true
bounds-in lower extent i from before = and_from _ _ (T-true (int_le lower i) from.le) (T-true (int_lt i (lower +ℤ extent)) before.lt)

-- a subscript at position 1 and at position 2
first-is : (first step : ℤ) → (step *ℤ pos 1) +ℤ (first -ℤ step) ≡ first
first-is first step = omega (arith, ints)

second-is : (first step : ℤ) → (step *ℤ pos 2) +ℤ (first -ℤ step) ≡ first +ℤ step
second-is first step = omega (arith, ints)

-- it is in bounds at position 2, where it is at both ends
second-in : (lower extent first step : ℤ) (n : ℕ) → 2 ≤ n → is_in lower extent first ≡ true → is_in lower extent ((step *ℤ pos n) +ℤ (first -ℤ step)) ≡ true
    → is_in lower extent (first +ℤ step) ≡ true
second-in lower extent first step n many one last =
    let f = subst (λ i. (lower ≤ℤ i) × (i <ℤ (lower +ℤ extent))) (sym (first-is first step)) (in-bounds lower extent first one) in
    let l = in-bounds lower extent ((step *ℤ pos n) +ℤ (first -ℤ step)) last in
    let s = subst (λ i. (lower ≤ℤ i) × (i <ℤ (lower +ℤ extent))) (second-is first step)
    (between lower (lower +ℤ extent) step (first -ℤ step) n 2 (omega arith) many f.0 f.1 l.0 l.1) in
    bounds-in lower extent (first +ℤ step) s.0 s.1

-- out of bounds at position 2 is out of bounds
pub second-out : (axis n : ℕ) (lower extent first step : ℤ) → 2 ≤ n → false ≡ is_in lower extent (first +ℤ step) → None ≡ inside_along axis n lower extent first step
second-out axis n lower extent first step many out =
    by (is_in lower extent first) (is_in lower extent ((step *ℤ pos n) +ℤ (first -ℤ step))) refl refl
  where
    by : (t u : Bool) → is_in lower extent first ≡ t → is_in lower extent ((step *ℤ pos n) +ℤ (first -ℤ step)) ≡ u
        → None ≡ (if t && u then Some (if nat_le n 1 then At first else Linear axis step (first -ℤ step)) else None)
    by true true e f = absurd (true≢false (sym (second-in lower extent first step n many e f) ∙ sym out))
    by true false e f = refl
    by false u e f = refl

-- along an axis of the space
pub along-inside : (ns : List ℕ) (lower extent first step : ℤ) (axis : ℕ) (moves : Option ℕ) → moves ≡ Some axis → axis < length ns
    → inside_along axis (get_or ns axis 0) lower extent first step ≡ inside_subscript ns lower extent (along moves first step)
along-inside ns lower extent first step axis moves is below =
    subst (λ m. inside_along axis (get_or ns axis 0) lower extent first step ≡ inside_subscript ns lower extent (along m first step)) (sym is)
    (λ i. if sym (lt-ltb axis (length ns) below) i
    && (is_in lower extent (sym (first-is first step) i) && is_in lower extent ((step *ℤ pos (get_or ns axis 0)) +ℤ (first -ℤ step)))
    then Some (if nat_le (get_or ns axis 0) 1 then At (sym (first-is first step) i) else Linear axis step (first -ℤ step)) else None)
