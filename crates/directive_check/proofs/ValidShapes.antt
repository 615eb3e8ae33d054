-- The shapes of arrays within the limits, and their elements.
use Rattle.std.proofs.Common.{◌≡◌, ℕ, ℤ, pos, negsuc, ◌+◌, ◌*◌, ◌/◌, ◌%◌, ◌<◌, ◌≤◌, ◌+ℤ◌, ◌-ℤ◌, ◌≤ℤ◌, List, [], ◌∷◌, map, All, Some, unsigned_abs, refl, sym, ap, subst, ◌∙◌, arith}
use Rattle.std.proofs.Math.Nat.{mod-lt, mul_comm}
use Rattle.std.proofs.lemmas.Int.{ints}
use Rattle.std.proofs.lemmas.List.{length-map}
use Rattle.std.proofs.lemmas.List.Elements.{All-map}
use Rattle.std.proofs.lemmas.Nat.{div_below}
use Rattle.hpf_base.specs.ElementOrder.{elements, extents_of, index_at, product}
use Rattle.hpf_base.specs.Shape.{IsShape}
use Rattle.hpf_base.specs.declared.limits.TheConstants.{MAX_BOUND}
use Rattle.hpf_base.proofs.ElementOrder.{factor_some}
use Rattle.hpf_base.proofs.Elements.{elements-get, length-elements}
use Rattle.hpf_base.proofs.Integers.{within_magnitude}
use Rattle.hpf_base.proofs.Places.{place_at}
use Rattle.expression_rules.specs.Dims.{AreDims, IsDim, at_least_none, elements as element_count, extent}
use Rattle.expression_rules.specs.declared.dims.Dim.{Dim}
use Rattle.alignment_rules.specs.AlignedEntries.{AreSubscripts}
use Rattle.directive_check.specs.ProgramMaps.{shape_of}

few_positions : (z : ℤ) (m : ℕ) → z ≤ℤ pos m → at_least_none z ≤ m
few_positions (pos n) m h = omega (arith, ints)
few_positions (negsuc n) m h = omega arith

-- the extent of a dimension within the limits
extent_few : (d : Dim) → IsDim d → extent d ≤ 2 * MAX_BOUND + 1
extent_few d is =
    let low = within_magnitude d.lower MAX_BOUND is.lower in
    let high = within_magnitude d.upper MAX_BOUND is.upper in
    few_positions (d.upper -ℤ d.lower +ℤ pos 1) (2 * MAX_BOUND + 1) (omega (arith, ints, low, high))

product_is : (ds : List Dim) → product (extents_of (shape_of ds)) ≡ element_count ds
product_is [] = refl
product_is (d ∷ ds) = ap (λ n. extent d * n) (product_is ds)

pub shape_is : (ds : List Dim) → AreDims ds → IsShape (shape_of ds)
shape_is ds are = record {
  rank = length-map ds (λ d. d.lower) ∙ sym (length-map ds (λ d. pos (extent d)));
  lower = All-map (λ l. unsigned_abs l ≤ MAX_BOUND) (λ d. d.lower) ds (λ k z within. (are.each k z within).lower);
  extent = All-map (λ e. (pos 0 ≤ℤ e) × (e ≤ℤ pos (2 * MAX_BOUND + 1))) (λ d. pos (extent d)) ds
      (λ k z within. let few = extent_few _ (are.each k z within) in (omega (arith, ints), omega (arith, ints, few)));
  size = omega (arith, product_is ds, are.size);
}

-- ---- elements

below_count : (z : ℤ) (p : ℕ) → p < at_least_none z → (pos p +ℤ pos 1) ≤ℤ z
below_count (pos n) p h = omega (arith, ints)
below_count (negsuc n) p h = absurd (omega arith)

subscripts_at : (ds : List Dim) (n : ℕ) → n < product (extents_of (shape_of ds)) →
    AreSubscripts (map Some ds) (index_at (map (λ d. d.lower) ds) (place_at (extents_of (shape_of ds)) n))
subscripts_at [] n below = tt
subscripts_at (d ∷ ds) n below =
    let rest = product (extents_of (shape_of ds)) in
    let some : 1 ≤ extent d = factor_some rest (extent d) (omega (arith, below, mul_comm (extent d) rest)) in
    let row : n / extent d < rest = div_below n (extent d) rest some (omega (arith, below, mul_comm (extent d) rest)) in
    let place : n % extent d < extent d = mod-lt n {m = extent d} (omega (arith, some)) in
    let last : (pos (n % extent d) +ℤ pos 1) ≤ℤ (d.upper -ℤ d.lower +ℤ pos 1) = below_count _ (n % extent d) place in
    (omega (arith, ints), omega (arith, ints, last), subscripts_at ds (n / extent d) row)

-- the elements of an array have subscripts inside its bounds
pub all_elements : (ds : List Dim) → All (AreSubscripts (map Some ds)) (elements (shape_of ds))
all_elements ds k z within =
    let below : k < product (extents_of (shape_of ds)) = omega (arith, within, length-elements (shape_of ds)) in
    subst (AreSubscripts (map Some ds)) (sym (elements-get (shape_of ds) k z below)) (subscripts_at ds k below)
