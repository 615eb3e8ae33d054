-- Elements by their subscripts.
use Rattle.std.proofs.Common.{◌≡◌, ℕ, ◌+◌, ◌*◌, ◌/◌, ◌%◌, ◌<◌, ◌≤◌, List, [], ◌∷◌, map, ℤ, pos, negsuc, ◌+ℤ◌, ◌-ℤ◌, nat_lt, Option, Some, None, option_map, option_and_then, refl, sym, ◌∙◌, ap, subst, arith}
use Rattle.std.proofs.lemmas.Bool.{ltb-true}
use Rattle.std.proofs.lemmas.Int.{ints}
use Rattle.std.proofs.lemmas.Option.{none-some, cond_some}
use Rattle.std.proofs.Math.Nat.{mod-eq_of_lt, add-mul-mod_self_left, add-mul-div_left, div-eq_of_lt, mul-le-mul_left}
use Rattle.hpf_base.specs.ElementOrder.{product, extents_of, index_at}
use Rattle.hpf_base.proofs.Elements.{elements-get}
use Rattle.hpf_base.proofs.Places.{place_at}
use Rattle.expression_rules.specs.declared.dims.Dim.{Dim}
use Rattle.expression_rules.specs.Dims.{extent}
use Rattle.array_meaning.specs.State.{element_place, offset, if_below}
use Rattle.machine_steps.specs.Layout.{element_index}
use Rattle.courses.specs.Subscripts.{shape_of_dims}
use Rattle.courses.proofs.StraightForms.{same}

below-is : (z : ℤ) (b k : ℕ) → if_below z b ≡ Some k → (z ≡ pos k) × (k < b)
below-is (pos n) b k e = let h = cond_some (nat_lt n b) n k e in (ap pos h.1, subst (λ m. m < b) h.1 (ltb-true n b h.0))
below-is (negsuc n) b k e = absurd (none-some k e)

parts : (o r : Option ℕ) (e at : ℕ) → option_and_then (λ k. option_map (λ rest. k + e * rest) r) o ≡ Some at
    → (k : ℕ) × (rest : ℕ) × (o ≡ Some k) × (r ≡ Some rest) × (k + e * rest ≡ at)
parts None r e at is = absurd (none-some at is)
parts (Some k) None e at is = absurd (none-some at is)
parts (Some k) (Some rest) e at is = (k, rest, refl, refl, same is)

index-walk : (ds : List Dim) (is : List ℤ) (at : ℕ) → element_place ds is ≡ Some at
    → (at < product (extents_of (shape_of_dims ds))) × (index_at (map (λ d. d.lower) ds) (place_at (extents_of (shape_of_dims ds)) at) ≡ is)
index-walk [] [] at e = (let h : 0 ≡ at = same e in omega (arith, h), refl)
index-walk [] (i ∷ is) at e = absurd (none-some at e)
index-walk (d ∷ ds) [] at e = absurd (none-some at e)
index-walk (d ∷ ds) (i ∷ is) at e =
    let h = parts (offset d i) (element_place ds is) (extent d) at e in
    let k = h.0 in
    let rest = h.1 in
    let n = extent d in
    let ns = extents_of (shape_of_dims ds) in
    let sum : k + n * rest ≡ at = h.4 in
    let b = below-is (i -ℤ d.lower) n k h.2 in
    let small : k < n = b.1 in
    let up = index-walk ds is rest h.3 in
    let row : rest < product ns = up.0 in
    let more : n * (rest + 1) ≤ n * product ns = mul-le-mul_left n (omega (arith, row)) in
    let some : 0 < n = omega (arith, small) in
    let left : at % n ≡ k = ap (λ x. x % n) (sym sum) ∙ add-mul-mod_self_left k n rest ∙ mod-eq_of_lt small in
    let right : at / n ≡ rest = ap (λ x. x / n) (sym sum) ∙ add-mul-div_left k rest some ∙ ap (λ x. x + rest) (div-eq_of_lt small) ∙ (let z : 0 + rest ≡ rest = omega arith in z) in
    let here : d.lower +ℤ pos k ≡ i = (let g = b.0 in omega (arith, ints, g)) in (
      omega (arith, sum, small, more),
      ap (λ x. (d.lower +ℤ pos x) ∷ index_at (map (λ d. d.lower) ds) (place_at ns (at / n))) left
          ∙ ap (λ x. (d.lower +ℤ pos k) ∷ index_at (map (λ d. d.lower) ds) (place_at ns x)) right
          ∙ ap (λ js. (d.lower +ℤ pos k) ∷ js) up.1
          ∙ ap (λ j. j ∷ is) here,
    )

-- the subscripts of an element that is named are those that name it
pub index : (ds : List Dim) (is : List ℤ) (at : ℕ) → element_place ds is ≡ Some at
    → (at < product (extents_of (shape_of_dims ds))) × (element_index (shape_of_dims ds) at ≡ is)
index ds is at e =
    let h = index-walk ds is at e in
    (h.0, elements-get (shape_of_dims ds) at [] h.0 ∙ h.1)
