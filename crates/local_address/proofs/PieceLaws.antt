-- What a node owns along each dimension makes its piece.
use Rattle.std.proofs.Common.{◌≡◌, ◌≢◌, ◌↔◌, ℕ, zero, suc, ◌+◌, ◌≤◌, ℤ, pos, ◌+ℤ◌, Bool, true, false, cond, List, [], ◌∷◌, refl, sym, ◌∙◌, ap, subst, arith, length, map, filter, take, All, AllPairs, Option, Some, None, slice_get}
use Rattle.std.proofs.lemmas.List.Elements.{All-tail}
use Rattle.std.proofs.lemmas.List.FromFn.{length-map-range_with_len}
use Rattle.std.proofs.lemmas.List.Sums.{count_by-le-length, length-filter}
use Rattle.std.proofs.lemmas.Nat.{mul-le}
use Rattle.std.specs.List.{list_all}
use Rattle.hpf_base.specs.declared.index.Shape.{Shape}
use Rattle.hpf_base.specs.declared.limits.TheConstants.{MAX_RANK}
use Rattle.hpf_base.specs.ElementOrder.{elements, extents_of, product}
use Rattle.hpf_base.specs.Grid.{node_coordinates}
use Rattle.hpf_base.specs.Shape.{IsShape}
use Rattle.hpf_base.proofs.ElementOrder.{product-some}
use Rattle.hpf_base.proofs.Elements.{AllPairs-filter, elements-distinct}
use Rattle.mappings.specs.declared.mapping.Mapping.{Mapping}
use Rattle.mappings.specs.Alignment.{owns}
use Rattle.mappings.specs.LocalOrder.{local_elements}
use Rattle.mappings.specs.Mapping.{IsMapping}
use Rattle.local_address.specs.Pieces.{AreDimensions, owned_along, tuples_where}
use Rattle.local_address.specs.Runs.{along, fixed_agrees, subscripts, tuples}
use Rattle.local_address.proofs.ElementLaws.{factors_some}
use Rattle.local_address.proofs.SpanLaws.{owned-tuples}
use Rattle.local_address.proofs.Tuples.{passing}

owned-passing : (mapping : Mapping) (node k : ℕ) (lowers : List ℤ) (extents : List ℕ) → owned_along mapping node k lowers extents ≡ passing (along mapping node) k lowers extents
owned-passing mapping node k [] extents = refl
owned-passing mapping node k (l ∷ ls) [] = refl
owned-passing mapping node k (l ∷ ls) (e ∷ es) = ap (λ xss. filter (along mapping node k) (subscripts l e) ∷ xss) (owned-passing mapping node (k + 1) ls es)

pub length-owned_along : (mapping : Mapping) (node k : ℕ) (lowers : List ℤ) (extents : List ℕ) → length (owned_along mapping node k lowers extents) ≤ length lowers
length-owned_along mapping node k [] extents = omega arith
length-owned_along mapping node k (l ∷ ls) [] = omega arith
length-owned_along mapping node k (l ∷ ls) (e ∷ es) = omega (arith, length-owned_along mapping node (k + 1) ls es)

-- no more tuples of the first dimensions than elements
lengths-few : (mapping : Mapping) (node k n : ℕ) (lowers : List ℤ) (extents : List ℕ) → All (λ e. 1 ≤ e) extents
    → product (map length (take n (owned_along mapping node k lowers extents))) ≤ product extents
lengths-few mapping node k zero lowers extents some = product-some extents some
lengths-few mapping node k (suc n) [] extents some = product-some extents some
lengths-few mapping node k (suc n) (l ∷ ls) [] some = omega arith
lengths-few mapping node k (suc n) (l ∷ ls) (e ∷ es) some =
    mul-le (length (filter (along mapping node k) (subscripts l e))) (product (map length (take n (owned_along mapping node (k + 1) ls es)))) e (product es)
    (omega (
      arith,
      length-filter (along mapping node k) (subscripts l e),
      count_by-le-length (along mapping node k) (subscripts l e),
      length-map-range_with_len (λ place. l +ℤ pos place) 0 e,
    ))
    (lengths-few mapping node (k + 1) n ls es (All-tail (λ x. 1 ≤ x) e es some))

-- the tuples of what a node owns along each dimension are its elements
pub owned-elements : (mapping : Mapping) (shape : Shape) (node : ℕ) (xss : List (List ℤ)) → IsShape shape → IsMapping (length shape.lower) mapping
    → true ≡ list_all (fixed_agrees (node_coordinates mapping.grid node)) mapping.dims → xss ≡ owned_along mapping node 0 shape.lower (extents_of shape)
    → tuples xss ≡ local_elements mapping shape node
owned-elements mapping shape node xss valid map_valid agrees is =
    ap tuples (is ∙ owned-passing mapping node 0 shape.lower (extents_of shape)) ∙ sym (owned-tuples mapping shape node valid map_valid agrees)

pub owned-dimensions : (mapping : Mapping) (shape : Shape) (node : ℕ) (xss : List (List ℤ)) → IsShape shape → IsMapping (length shape.lower) mapping
    → true ≡ list_all (fixed_agrees (node_coordinates mapping.grid node)) mapping.dims → 1 ≤ product (extents_of shape) → length xss ≤ MAX_RANK
    → xss ≡ owned_along mapping node 0 shape.lower (extents_of shape) → AreDimensions xss
owned-dimensions mapping shape node xss valid map_valid agrees some short is = record {
  rank = short;
  few = λ k. let few : product (map length (take k xss)) ≤ product (extents_of shape) =
      subst (λ l. product (map length (take k l)) ≤ product (extents_of shape)) (sym is)
      (lengths-few mapping node 0 k shape.lower (extents_of shape) (factors_some (extents_of shape) some)) in
      omega (arith, few, valid.size);
  apart = subst (AllPairs (λ x y. x ≢ y)) (sym (owned-elements mapping shape node xss valid map_valid agrees is))
      (AllPairs-filter (λ x y. x ≢ y) (λ index. owns mapping index node) (elements shape) (elements-distinct shape valid));
}

-- a node that owns none has no address, and any other has those of the tuples
pub addresses-none : (agrees : Bool) (xss : List (List ℤ)) (x : List ℤ) → agrees ≡ false
    → (q : ℕ) → (◌≡◌ {A = Option ℕ} None (Some q)) ↔ (slice_get (tuples_where agrees xss) q ≡ Some x)
addresses-none agrees xss x is q = (
  λ same. cc,
  λ at. let none : ◌≡◌ {A = Option (List ℤ)} None (Some x) = sym (ap (λ t. slice_get (cond t (tuples xss) []) q) is) ∙ at in cc,
)

pub addresses-of : (agrees : Bool) (xss same_dims : List (List ℤ)) (x same : List ℤ) (number : Option ℕ) → agrees ≡ true → same_dims ≡ xss → same ≡ x
    → ((q : ℕ) → (number ≡ Some q) ↔ (slice_get (tuples same_dims) q ≡ Some same))
    → (q : ℕ) → (number ≡ Some q) ↔ (slice_get (tuples_where agrees xss) q ≡ Some x)
addresses-of agrees xss same_dims x same number is dims-is same-is numbers =
    subst (λ t. (q : ℕ) → (number ≡ Some q) ↔ (slice_get (cond t (tuples xss) []) q ≡ Some x)) (sym is)
    (subst (λ l. (q : ℕ) → (number ≡ Some q) ↔ (slice_get (tuples l) q ≡ Some x)) dims-is
    (subst (λ i. (q : ℕ) → (number ≡ Some q) ↔ (slice_get (tuples same_dims) q ≡ Some i)) same-is numbers))
