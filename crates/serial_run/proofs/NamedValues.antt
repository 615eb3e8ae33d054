-- Values of entries, one after the other.
use Rattle.std.proofs.Common.{◌≡◌, ℕ, zero, suc, ◌+◌, ◌<◌, List, [], ◌∷◌, ◌++◌, append_assoc, drop, length, map, slice_get, Option, Some, ap, sym, ◌∙◌, arith}

rest_from : {A B : Type 0} (f : A → B) (g : Option A → B) → ((x : A) → g (Some x) ≡ f x) → (xs : List A) (n : ℕ) → n < length xs →
    map f (drop n xs) ≡ g (slice_get xs n) ∷ map f (drop (suc n) xs)
rest_from f g same [] n lt = absurd (omega (arith, lt))
rest_from f g same (x ∷ xs) zero lt = ap (λ y. y ∷ map f xs) (sym (same x))
rest_from f g same (x ∷ xs) (suc n) lt = let less : n < length xs = omega (arith, lt) in rest_from f g same xs n less

-- one more value of those that are left
pub next_value : {A B : Type 0} (f : A → B) (g : Option A → B) → ((x : A) → g (Some x) ≡ f x) → (xs : List A) (n : ℕ) (ys : List B) (y : B) → n < length xs →
    y ≡ g (slice_get xs n) → ys ++ map f (drop n xs) ≡ map f xs → (ys ++ y ∷ []) ++ map f (drop (n + 1) xs) ≡ map f xs
next_value f g same xs n ys y lt is before =
    let next : n + 1 ≡ suc n = omega arith in
    append_assoc ys (y ∷ []) (map f (drop (n + 1) xs))
    ∙ ap (λ m. ys ++ (y ∷ map f (drop m xs))) next
    ∙ ap (λ y. ys ++ (y ∷ map f (drop (suc n) xs))) is
    ∙ ap (λ l. ys ++ l) (sym (rest_from f g same xs n lt))
    ∙ before
