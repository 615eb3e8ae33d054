-- Entries by their places.
use Rattle.std.proofs.Common.{◌≡◌, ℕ, suc, ◌+◌, List, [], ◌∷◌, ◌++◌, append_assoc, drop, drop-cons, map, slice_get, Some, ap, sym, ◌∙◌, arith}
use Rattle.std.proofs.lemmas.Option.{slice_get_within, get_or_from_slice_get}

-- those from a place on are the one at it and those after
pub drop-entry : {A : Type 0} (xs : List A) (n : ℕ) (x : A) → slice_get xs n ≡ Some x → drop n xs ≡ x ∷ drop (n + 1) xs
drop-entry xs n x at =
    let next : suc n ≡ n + 1 = omega arith in
    drop-cons xs n x (slice_get_within xs n x at) ∙ ap (λ y. y ∷ drop (suc n) xs) (get_or_from_slice_get xs n x x at) ∙ ap (λ m. x ∷ drop m xs) next

-- what is made of one more, before what is left, is made of all
pub next_entry : {A B : Type 0} (f : A → B) (xs : List A) (n : ℕ) (x : A) (made : List B) → slice_get xs n ≡ Some x → made ++ map f (drop n xs) ≡ map f xs
    → (made ++ f x ∷ []) ++ map f (drop (n + 1) xs) ≡ map f xs
next_entry f xs n x made at before =
    append_assoc made (f x ∷ []) (map f (drop (n + 1) xs)) ∙ ap (λ l. made ++ map f l) (sym (drop-entry xs n x at)) ∙ before
