-- Mappings with at most two distributed dimensions, and arrays with two, from what is tried of each part.
use Rattle.std.proofs.Common.{◌≡◌, ◌≢◌, ℕ, ◌+◌, ◌*◌, ◌^◌, ◌<◌, ◌≤◌, ℤ, pos, ◌≤ℤ◌, unsigned_abs, List, [], ◌∷◌, All, AllPairs, get_or, length, map, sym, ◌∙◌, ap, subst, arith, refl}
use Rattle.std.proofs.lemmas.Int.{ints}
use Rattle.std.proofs.lemmas.List.Elements.{All-cons, All-nil}
use Rattle.hpf_base.proofs.Elements.{AllPairs-cons}
use Rattle.hpf_base.specs.ElementOrder.{product}
use Rattle.hpf_base.specs.Shape.{IsShape}
use Rattle.hpf_base.specs.declared.limits.TheConstants.{MAX_BOUND, MAX_ELEMENTS}
use Rattle.mappings.specs.Mapping.{IsMapDim, IsMapping, MoveApart}
use Rattle.mappings.specs.declared.mapping.MapDim.{MapDim}

two : {X : Type 0} (P : X → Type 0) (xs : List X) (a b : X) → xs ≡ a ∷ b ∷ [] → P a → P b → All P xs
two P xs a b is first next = subst (All P) (sym is) (All-cons P a (b ∷ []) first (All-cons P b [] next (All-nil P)))

-- all of a list with two items
pub all_two : {X : Type 0} (P : X → Type 0) (xs ys : List X) (x y : X) → xs ≡ ys → 2 ≤ length xs → length xs < 3 → x ≡ get_or xs 0 x
    → y ≡ get_or xs 1 y → P x → P y → All P ys
all_two P [] ys x y is some few first next holds also = absurd (omega arith)
all_two P (a ∷ []) ys x y is some few first next holds also = absurd (omega arith)
all_two P (a ∷ b ∷ []) ys x y is some few first next holds also = two P ys a b (sym is) (subst P first holds) (subst P next also)
all_two P (a ∷ b ∷ e ∷ es) ys x y is some few first next holds also = absurd (omega arith)

no_pairs : {X : Type 0} (R : X → X → Type 0) → AllPairs R []
no_pairs R i j d order within = absurd (omega (arith, within))

one_pair : {X : Type 0} (R : X → X → Type 0) (a : X) → AllPairs R (a ∷ [])
one_pair R a = AllPairs-cons R a [] (All-nil (R a)) (no_pairs R)

two_pairs : {X : Type 0} (R : X → X → Type 0) (a b : X) → R a b → AllPairs R (a ∷ b ∷ [])
two_pairs R a b apart = AllPairs-cons R a (b ∷ []) (All-cons (R a) b [] apart (All-nil (R a))) (one_pair R b)

-- the mapping with two entries
pub two_entries : (grid : List ℕ) (rank : ℕ) (a b : MapDim) → IsMapDim grid rank a → IsMapDim grid rank b → a.grid_dim ≢ b.grid_dim
    → MoveApart a.align b.align → IsMapping rank (record { grid = grid; dims = a ∷ b ∷ [] })
two_entries grid rank a b first next dims aligns = record {
  entries = two (IsMapDim grid rank) (a ∷ b ∷ []) a b refl first next;
  grid_dims = two_pairs (λ x y. x.grid_dim ≢ y.grid_dim) a b dims;
  apart = two_pairs (λ x y. MoveApart x.align y.align) a b aligns;
}

-- the array of two dimensions
pub plane_shape : (lowers extents : List ℤ) (lower next e f : ℤ) (n m : ℕ) → lowers ≡ lower ∷ next ∷ [] → extents ≡ e ∷ f ∷ [] → pos n ≡ e → pos m ≡ f
    → unsigned_abs lower ≤ MAX_BOUND → unsigned_abs next ≤ MAX_BOUND → n < 2 ^ 32 → m < 2 ^ 32 → n * m ≤ MAX_ELEMENTS
    → IsShape (record { lower = lowers; extent = extents })
plane_shape lowers extents lower next e f n m lowers-are extents-are e-is f-is low low-next few few-next few-all =
    let are : extents ≡ pos n ∷ pos m ∷ [] = extents-are ∙ (λ i. sym e-is i ∷ sym f-is i ∷ []) in
    record {
      rank = ap length lowers-are ∙ sym (ap length are);
      lower = two (λ l. unsigned_abs l ≤ MAX_BOUND) lowers lower next lowers-are low low-next;
      extent = two (λ x. (pos 0 ≤ℤ x) × (x ≤ℤ pos (2 * MAX_BOUND + 1))) extents (pos n) (pos m) are
          (omega (arith, ints), omega (arith, ints, few)) (omega (arith, ints), omega (arith, ints, few-next));
      size =
          let same : n * m ≡ product (map unsigned_abs (pos n ∷ pos m ∷ [])) = omega arith in
          subst (λ es. product (map unsigned_abs es) ≤ MAX_ELEMENTS) (sym are) (subst (λ k. k ≤ MAX_ELEMENTS) same few-all);
    }
