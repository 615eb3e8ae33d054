-- What holds of each item of a list.
use Rattle.std.proofs.Common.{◌≡◌, ℕ, zero, suc, ◌+◌, ◌<◌, List, [], ◌∷◌, length, map, get_or, take, All, subst, arith}
use Rattle.std.proofs.lemmas.List.Elements.{All-cons, All-head, All-nil, All-tail}

-- of the first so many, and of one more
pub all-next : {A B : Type 0} (P : B → Type 0) (f : A → B) (xs : List A) (n : ℕ) (x : A) → n < length xs → x ≡ get_or xs n x
    → All P (map f (take n xs)) → P (f x) → All P (map f (take (n + 1) xs))
all-next P f [] n x within at all here = absurd (omega arith)
all-next P f (y ∷ xs) zero x within at all here = All-cons P (f y) [] (subst (λ z. P (f z)) at here) (All-nil P)
all-next P f (y ∷ xs) (suc n) x within at all here =
    let one : suc (n + 1) ≡ suc n + 1 = omega arith in
    subst (λ m. All P (map f (take m (y ∷ xs)))) one
    (All-cons P (f y) (map f (take (n + 1) xs)) (All-head P (f y) (map f (take n xs)) all)
    (all-next P f xs n x (omega (arith, within)) at (All-tail P (f y) (map f (take n xs)) all) here))
