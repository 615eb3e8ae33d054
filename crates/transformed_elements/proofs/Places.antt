-- Elements by their places: the subscripts of an element, its place, and the indices at a tuple of the bounds of an array.
use Rattle.std.proofs.Common.{◌≡◌, ℕ, suc, ◌+◌, ◌*◌, ◌/◌, ◌%◌, ◌^◌, ◌<◌, ◌≤◌, if◌then◌else◌, List, [], ◌∷◌, map, ℤ, pos, negsuc, ◌+ℤ◌, ◌-ℤ◌, ◌<ℤ◌, Some, None, option_map, option_and_then, refl, ap, ◌∙◌, arith}
use Rattle.std.proofs.Math.Nat.{mod-add-div, mod-eq_of_lt, add-mul-mod_self_left, add-mul-div_left, div-eq_of_lt, mul_comm}
use Rattle.std.proofs.lemmas.Bool.{lt-ltb}
use Rattle.std.proofs.lemmas.Int.{ints}
use Rattle.std.proofs.lemmas.List.Elements.{All-head, All-tail}
use Rattle.std.proofs.lemmas.Nat.{div_below, mod_below}
use Rattle.std.specs.Prelude.{All}
use Rattle.hpf_base.specs.ElementOrder.{product, index_at}
use Rattle.hpf_base.proofs.ElementOrder.{factor_some}
use Rattle.hpf_base.proofs.Places.{place_at}
use Rattle.op_tables.specs.Operators.{wrapped}
use Rattle.array_meaning.specs.Dim.{Dim}
use Rattle.array_meaning.specs.Dims.{IsDim, at_least_none, extent}
use Rattle.array_meaning.specs.Forall.{index_extents, indices_at}
use Rattle.array_meaning.specs.Sections.{nth}
use Rattle.array_meaning.specs.State.{element_place, if_below, offset}
use Rattle.array_meaning.specs.Statements.{WholeArray}
use Rattle.array_meaning.specs.Transformations.{extents_of}
use Rattle.statement_trail.specs.TransformedElements.{bounds_of, axes_of}
use Rattle.transformed_elements.proofs.Shifts.{small}

-- ---- numbers of places

-- a place has a first position, and one by the other extents
pub first-place : (n : ℕ) (ns : List ℕ) (t : ℕ) → t < product (n ∷ ns) → (0 < n) × (t / n < product ns)
first-place n ns t below =
    let some : 1 ≤ n = factor_some (product ns) n (omega (arith, below, mul_comm n (product ns))) in
    (some, div_below t n (product ns) some (omega (arith, below, mul_comm n (product ns))))

-- both, of a place that is put together
pub parts-of : (n p rest : ℕ) → p < n → ((p + n * rest) % n ≡ p) × ((p + n * rest) / n ≡ rest)
parts-of n p rest low =
    let some : 0 < n = omega (arith, low) in
    let none : 0 + rest ≡ rest = omega arith in (
      add-mul-mod_self_left p n rest ∙ mod-eq_of_lt low,
      add-mul-div_left p rest some ∙ ap (λ z. z + rest) (div-eq_of_lt low) ∙ none,
    )

-- ---- subscripts

-- the lower bounds, and the subscripts of the element at a place
abbrev pub lowers : List Dim → List ℤ
lowers ds = map (λ d. d.lower) ds

abbrev pub subscripts_of : List Dim → ℕ → List ℤ
subscripts_of ds t = index_at (lowers ds) (place_at (map extent ds) t)

offset-is : (d : Dim) (p : ℕ) → p < extent d → offset d (d.lower +ℤ pos p) ≡ Some p
offset-is d p low =
    let back : (d.lower +ℤ pos p) -ℤ d.lower ≡ pos p = omega (arith, ints) in
    ap (λ z. if_below z (extent d)) back ∙ ap (λ b. if b then Some p else None) (lt-ltb p (extent d) low)

-- they name that element
pub place-is : (ds : List Dim) (t : ℕ) → t < product (map extent ds) → element_place ds (subscripts_of ds t) ≡ Some t
place-is [] t below = let none : 0 ≡ t = omega (arith, below) in ap Some none
place-is (d ∷ ds) t below =
    let parts = first-place (extent d) (map extent ds) t below in
    ap (option_and_then (λ k. option_map (λ rest. k + extent d * rest) (element_place ds (subscripts_of ds (t / extent d)))))
    (offset-is d (t % extent d) (mod_below t (extent d) parts.0))
    ∙ ap (option_map (λ rest. t % extent d + extent d * rest)) (place-is ds (t / extent d) parts.1)
    ∙ ap Some (mod-add-div t (extent d))

-- ---- indices

-- no bound is great
pub few-subscripts : (d : Dim) → IsDim d → extent d < 2 ^ 62
few-subscripts d known = few (d.upper -ℤ d.lower +ℤ pos 1) (let l = known.lower in let u = known.upper in omega (arith, ints, l, u))
  where
    few : (z : ℤ) → z <ℤ pos (2 ^ 62) → at_least_none z < 2 ^ 62
    few (pos n) high = omega (arith, ints, high)
    few (negsuc n) high = omega arith

pub fits-above : (d : Dim) (p : ℕ) → IsDim d → p < 2 ^ 62 → wrapped (d.lower +ℤ pos p) ≡ d.lower +ℤ pos p
fits-above d p known few = small (d.lower +ℤ pos p) (let l = known.lower in omega (arith, ints, l, few))

-- the values of the indices at a tuple are the subscripts of the element at its place
pub indices-are : (ds : List Dim) (t : ℕ) → All IsDim ds → t < product (map extent ds) → indices_at (map bounds_of ds) t ≡ subscripts_of ds t
indices-are [] t known below = refl
indices-are (d ∷ ds) t known below =
    let parts = first-place (extent d) (map extent ds) t below in
    let p = t % extent d in
    let own = All-head IsDim d ds known in
    let low : p < 2 ^ 62 = omega (arith, mod_below t (extent d) parts.0, few-subscripts d own) in
    let line : nth (bounds_of d) (pos (suc p)) ≡ d.lower +ℤ pos p = omega (arith, ints) in
    let first : wrapped (nth (bounds_of d) (pos (suc p))) ≡ d.lower +ℤ pos p = ap wrapped line ∙ fits-above d p own low in
    λ i. first i ∷ indices-are ds (t / extent d) (All-tail IsDim d ds known) parts.1 i

extents-are : (ds : List Dim) → index_extents (map bounds_of ds) ≡ map extent ds
extents-are [] = refl
extents-are (d ∷ ds) = ap (λ ns. extent d ∷ ns) (extents-are ds)

-- the indices have a tuple for each element
pub all-places : (x : WholeArray) → index_extents (axes_of x) ≡ extents_of x
all-places x = extents-are x.dims
