-- The dimensions of arrays, and how many elements they have, within limits.
use Rattle.std.proofs.Common.{◌≡◌, ℕ, zero, suc, ℤ, ◌+◌, ◌*◌, ◌<◌, ◌≤◌, Bool, true, false, List, [], ◌∷◌, drop, length, get_or, add-one, drop-cons, min, nat_lt, Option, Some, None, All, Fits, w64, refl, sym, ap, subst, ◌∙◌, arith}
use Rattle.std.specs.Prelude.{◌||◌, unsigned_abs}
use Rattle.std.specs.List.{list_any}
use Rattle.std.proofs.Math.Nat.{mul_assoc, mul-le-mul_left, mul_comm}
use Rattle.std.proofs.lemmas.Bool.Decides.{nat_tests}
use Rattle.std.proofs.lemmas.List.Elements.{All-cons, All-nil}
use Rattle.hpf_base.specs.declared.limits.TheConstants.{MAX_BOUND, MAX_RANK, MAX_ELEMENTS}
use Rattle.declarations.specs.declared.limits.TheConstants.{MAX_TOTAL_ELEMENTS}
use Rattle.syntax_tree.specs.Directive.{Bound}
use Rattle.expression_rules.specs.declared.dims.Dim.{Dim}
use Rattle.expression_rules.specs.Dims.{AreDims, IsDim, elements, extent}
use Rattle.expression_rules.specs.Symbols.{SymbolTable, all_elements}
use Rattle.declarations.specs.Declarations.{dims, is_bound_too_far, is_past_limits, is_too_far, is_too_large, lower_of, number, with_dim}

-- ---- a product that is cut off

min_times : (a b cap : ℕ) → min (min a cap * b) cap ≡ min (a * b) cap
min_times a zero cap = let none : min a cap * 0 ≡ a * 0 = omega arith in ap (λ m. min m cap) none
min_times a (suc k) cap = by (nat_lt cap a) refl
  where
    by : (t : Bool) → nat_lt cap a ≡ t → min (min a cap * suc k) cap ≡ min (a * suc k) cap
    by true e =
        let past : cap < a = grind (arith, nat_tests) in
        let at : min a cap ≡ cap = omega arith in
        omega (arith, ap (λ m. m * suc k) at)
    by false e =
        let within : a ≤ cap = grind (arith, nat_tests) in
        let at : min a cap ≡ a = omega arith in
        omega (arith, ap (λ m. m * suc k) at)

pub capped_next : (cap : ℕ) (ds : List Dim) (n size : ℕ) (z : Dim) (after whole : ℕ) → n < length ds → after ≡ min (size * extent (get_or ds n z)) cap →
    min (size * elements (drop n ds)) cap ≡ whole → min (after * elements (drop (n + 1) ds)) cap ≡ whole
capped_next cap ds n size z after whole within more so_far =
    let d = get_or ds n z in
    let rest = elements (drop (n + 1) ds) in
    ap (λ m. min (m * rest) cap) more
    ∙ min_times (size * extent d) rest cap
    ∙ ap (λ m. min m cap) (mul_assoc size (extent d) rest)
    ∙ ap (λ l. min (size * elements l) cap) (ap (λ m. d ∷ drop m ds) (add-one n) ∙ sym (drop-cons ds n z within))
    ∙ so_far

pub product_fits : (a b : ℕ) → a ≤ MAX_ELEMENTS + 1 → b ≤ 2 * MAX_BOUND + 1 → Fits w64 (a * b)
product_fits a b ha hb =
    let h : b * a ≤ b * (MAX_ELEMENTS + 1) = mul-le-mul_left b ha in
    omega (arith, h, hb, mul_comm a b)

-- ---- dimensions within the limits

at_most : (limit n : ℕ) → nat_lt limit n ≡ false → n ≤ limit
at_most limit n h = grind (arith, nat_tests)

near : (n : ℤ) → is_too_far (Some n) ≡ false → unsigned_abs n ≤ MAX_BOUND
near n h = at_most MAX_BOUND (unsigned_abs n) h

or_none : (a b : Bool) → (a || b) ≡ false → (a ≡ false) × (b ≡ false)
or_none true b h = absurd cc
or_none false b h = (refl, h)

with_dim_within : (l u : Option ℤ) (r : Option (List Dim)) (ds : List Dim) → (is_too_far l || is_too_far u) ≡ false → ((es : List Dim) → r ≡ Some es → All IsDim es) →
    with_dim l u r ≡ Some ds → All IsDim ds
with_dim_within None u r ds near_by rest is = absurd cc
with_dim_within (Some l) None r ds near_by rest is = absurd cc
with_dim_within (Some l) (Some u) None ds near_by rest is = absurd cc
with_dim_within (Some l) (Some u) (Some es) ds near_by rest is =
    let both = or_none (is_too_far (Some l)) (is_too_far (Some u)) near_by in
    let same : record { lower = l; upper = u } ∷ es ≡ ds = cc in
    subst (All IsDim) same (All-cons IsDim (record { lower = l; upper = u }) es (record { lower = near l both.0; upper = near u both.1 }) (rest es refl))

pub each_within : (t : SymbolTable) (bs : List Bound) (ds : List Dim) → list_any (is_bound_too_far t) bs ≡ false → dims t bs ≡ Some ds → All IsDim ds
each_within t [] ds near_by is = let same : [] ≡ ds = cc in subst (All IsDim) same (All-nil IsDim)
each_within t (b ∷ bs) ds near_by is =
    let both = or_none (is_bound_too_far t b) (list_any (is_bound_too_far t) bs) near_by in
    with_dim_within (lower_of t b) (number t b.upper) (dims t bs) ds both.0 (λ es e. each_within t bs es both.1 e) is

-- an array that isn't past its limits
pub are_dims : (t : SymbolTable) (bs : List Bound) (ds : List Dim) → is_past_limits t bs ≡ false → dims t bs ≡ Some ds → AreDims ds
are_dims t bs ds within is =
    let both = or_none (nat_lt MAX_RANK (length bs) || list_any (is_bound_too_far t) bs) (is_too_large (all_elements t) (dims t bs)) within in
    let few = or_none (nat_lt MAX_ELEMENTS (elements ds)) (nat_lt MAX_TOTAL_ELEMENTS (all_elements t + elements ds)) (sym (ap (is_too_large (all_elements t)) is) ∙ both.1) in
    record {
      each = each_within t bs ds (or_none (nat_lt MAX_RANK (length bs)) (list_any (is_bound_too_far t) bs) both.0).1 is;
      size = at_most MAX_ELEMENTS (elements ds) few.0;
    }
