-- A list that is sorted, and then without its repetitions.
use Rattle.std.proofs.Common.{◌≡◌, ◌||◌, Bool, true, false, if◌then◌else◌, List, [], ◌∷◌, map, Less, refl, sym, ◌∙◌, ap, arith}
use Rattle.std.proofs.lemmas.List.Sorted.{list_any-IsPermutation}
use Rattle.std.specs.List.{AllByRecursion, dedup, dedup_from, list_any}
use Rattle.std.specs.List.Sorted.{IsStrictlySortedBy, IsPermutation}
use Rattle.storage.specs.Storage.{Spot}
use Rattle.storage.specs.Storage.{is_same_spot}
use Rattle.message_elements.specs.Ascending.{spot_cmp, Ascends}
use Rattle.message_elements.specs.Elements.{is_among, SameAmong}

-- in order by what contracts see of them
pub sorted-map : {V : Type 0} (f : V → Spot) (xs : List V) → IsStrictlySortedBy (λ x y. spot_cmp (f x) (f y)) xs → Ascends (map f xs)
unfolding IsStrictlySortedBy
sorted-map f [] sorted = tt
sorted-map {V} f (x ∷ xs) sorted = (all xs sorted.0, sorted-map f xs sorted.1)
  where
    all : (ys : List V) → AllByRecursion (λ y. spot_cmp (f x) (f y) ≡ Less) ys → AllByRecursion (λ s. spot_cmp (f x) s ≡ Less) (map f ys)
    all [] above = tt
    all (y ∷ ys) above = (above.0, all ys above.1)

pub among-map : {V : Type 0} (f : V → Spot) (xs : List V) (s : Spot) → is_among (map f xs) s ≡ list_any (λ x. is_same_spot (f x) s) xs
among-map f [] s = refl
among-map f (x ∷ xs) s = ap (λ b. is_same_spot (f x) s || b) (among-map f xs s)

-- without repetitions a test finds the same
any-dedup_from : {V : Type 0} (same : V → V → Bool) (p : V → Bool) → ((x y : V) → same x y ≡ true → p x ≡ p y) → (k : V) (xs : List V)
    → list_any p (dedup_from same k xs) ≡ (p k || list_any p xs)
any-dedup_from same p agree k [] = refl
any-dedup_from {V} same p agree k (x ∷ xs) = by_case (same x k) refl (any-dedup_from same p agree k xs) (any-dedup_from same p agree x xs)
  where
    twice : (a b c : Bool) → a ≡ b → (a || c) ≡ (a || (b || c))
    twice true b c e = refl
    twice false true c e = cc
    twice false false c e = refl

    by_case : (b : Bool) → same x k ≡ b → list_any p (dedup_from same k xs) ≡ (p k || list_any p xs) → list_any p (dedup_from same x xs) ≡ (p x || list_any p xs)
        → list_any p (if b then dedup_from same k xs else k ∷ dedup_from same x xs) ≡ (p k || (p x || list_any p xs))
    by_case true e with-k with-x = with-k ∙ twice (p k) (p x) (list_any p xs) (sym (agree x k e))
    by_case false e with-k with-x = ap (λ b. p k || b) with-x

pub any-dedup : {V : Type 0} (same : V → V → Bool) (p : V → Bool) → ((x y : V) → same x y ≡ true → p x ≡ p y) → (xs : List V) → list_any p (dedup same xs) ≡ list_any p xs
any-dedup same p agree [] = refl
any-dedup same p agree (x ∷ xs) = any-dedup_from same p agree x xs

-- neither drops an element
pub same-among : {V : Type 0} (f : V → Spot) (same : V → V → Bool) → ((x y : V) → same x y ≡ true → f x ≡ f y) → (xs ys : List V) → IsPermutation xs ys
    → SameAmong (map f xs) (map f (dedup same ys))
same-among f same agree xs ys moved s =
    among-map f (dedup same ys) s
    ∙ any-dedup same (λ x. is_same_spot (f x) s) (λ x y e. ap (λ (t : Spot). is_same_spot t s) (agree x y e)) ys
    ∙ sym (list_any-IsPermutation (λ x. is_same_spot (f x) s) xs ys moved)
    ∙ sym (among-map f xs s)
