-- What holds of each item of a list.
use Rattle.std.proofs.Common.{◌≡◌, ℕ, zero, suc, ◌+◌, ◌<◌, List, [], ◌∷◌, length, map, get_or, take, All, sym, ap, subst, arith}
use Rattle.std.proofs.lemmas.List.Elements.{All-cons, All-head, All-nil, All-tail}

pub all-item : {A B : Type 0} (P : B → Type 0) (f : A → B) (xs : List A) (n : ℕ) (x : A) → All P (map f xs) → n < length xs → x ≡ get_or xs n x → P (f x)
all-item P f [] n x all within at = absurd (omega arith)
all-item P f (y ∷ xs) zero x all within at = subst (λ z. P (f z)) (sym at) (All-head P (f y) (map f xs) all)
all-item P f (y ∷ xs) (suc n) x all within at = all-item P f xs n x (All-tail P (f y) (map f xs) all) (omega (arith, within)) at

-- of the first of a list, and of one more
pub all-next : {A B : Type 0} (P : B → Type 0) (f : A → B) (xs : List A) (n : ℕ) (x : A) → n < length xs → x ≡ get_or xs n x
    → All P (map f (take n xs)) → P (f x) → All P (map f (take (n + 1) xs))
all-next P f [] n x within at all here = absurd (omega arith)
all-next P f (y ∷ xs) zero x within at all here = All-cons P (f y) [] (subst (λ z. P (f z)) at here) (All-nil P)
all-next P f (y ∷ xs) (suc n) x within at all here =
    let one : suc (n + 1) ≡ suc n + 1 = omega arith in
    subst (λ m. All P (map f (take m (y ∷ xs)))) one
    (All-cons P (f y) (map f (take (n + 1) xs)) (All-head P (f y) (map f (take n xs)) all)
    (all-next P f xs n x (omega (arith, within)) at (All-tail P (f y) (map f (take n xs)) all) here))

-- what a function gives of it
pub get-map : {A B : Type 0} (f : A → List B) (xs : List A) (n : ℕ) (x : A) (d : List B) → n < length xs → x ≡ get_or xs n x → f x ≡ get_or (map f xs) n d
get-map f [] n x d within at = absurd (omega arith)
get-map f (y ∷ xs) zero x d within at = ap f at
get-map f (y ∷ xs) (suc n) x d within at = get-map f xs n x d (omega (arith, within)) at
