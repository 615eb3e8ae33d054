-- What holds of each item of a list.
use Rattle.std.proofs.Common.{◌≡◌, ℕ, zero, suc, ◌+◌, ◌<◌, ◌&&◌, Bool, true, false, List, [], ◌∷◌, ◌++◌, length, map, get_or, take, Option, Some, None, All, refl, sym, ◌∙◌, ap, subst, arith}
use Rattle.std.proofs.lemmas.List.Elements.{All-cons, All-head, All-nil, All-tail}
use Rattle.std.specs.List.{list_all}
use Rattle.std.specs.Option.{IfSome}
use Rattle.storage.specs.Storage.{Spot}
use Rattle.machine_steps.specs.Message.{first_read}

pub all-item : {A B : Type 0} (P : B → Type 0) (f : A → B) (xs : List A) (n : ℕ) (x : A) → All P (map f xs) → n < length xs → x ≡ get_or xs n x → P (f x)
all-item P f [] n x all within at = absurd (omega arith)
all-item P f (y ∷ xs) zero x all within at = subst (λ z. P (f z)) (sym at) (All-head P (f y) (map f xs) all)
all-item P f (y ∷ xs) (suc n) x all within at = all-item P f xs n x (All-tail P (f y) (map f xs) all) (omega (arith, within)) at

-- a test of the first of a list, and one more
pub all-more : {A B : Type 0} (p : B → Bool) (f : A → B) (xs : List A) (n : ℕ) (x : A) → n < length xs → x ≡ get_or xs n x
    → list_all p (map f (take n xs)) ≡ true → p (f x) ≡ true → list_all p (map f (take (n + 1) xs)) ≡ true
all-more p f [] n x within at all here = absurd (omega arith)
all-more p f (y ∷ xs) zero x within at all here = ap (λ b. b && true) (ap (λ z. p (f z)) (sym at) ∙ here)
all-more p f (y ∷ xs) (suc n) x within at all here =
    let one : suc (n + 1) ≡ suc n + 1 = omega arith in
    subst (λ m. list_all p (map f (take m (y ∷ xs))) ≡ true) one (by_first (p (f y)) all (λ all. all-more p f xs n x (omega (arith, within)) at all here))
  where
    by_first : (b : Bool) → (b && list_all p (map f (take n xs))) ≡ true
        → (list_all p (map f (take n xs)) ≡ true → list_all p (map f (take (n + 1) xs)) ≡ true) → (b && list_all p (map f (take (n + 1) xs))) ≡ true
    by_first true e rest = rest e
    by_first false e rest = e

pub all-next : {A B : Type 0} (P : B → Type 0) (f : A → B) (xs : List A) (n : ℕ) (x : A) → n < length xs → x ≡ get_or xs n x
    → All P (map f (take n xs)) → P (f x) → All P (map f (take (n + 1) xs))
all-next P f [] n x within at all here = absurd (omega arith)
all-next P f (y ∷ xs) zero x within at all here = All-cons P (f y) [] (subst (λ z. P (f z)) at here) (All-nil P)
all-next P f (y ∷ xs) (suc n) x within at all here =
    let one : suc (n + 1) ≡ suc n + 1 = omega arith in
    subst (λ m. All P (map f (take m (y ∷ xs)))) one
    (All-cons P (f y) (map f (take (n + 1) xs)) (All-head P (f y) (map f (take n xs)) all)
    (all-next P f xs n x (omega (arith, within)) at (All-tail P (f y) (map f (take n xs)) all) here))

-- the first of a list, and one more
pub names-next : {A B : Type 0} (f : A → B) (xs : List A) (n : ℕ) (x : A) → n < length xs → x ≡ get_or xs n x → map f (take (n + 1) xs) ≡ map f (take n xs) ++ f x ∷ []
names-next f [] n x within at = absurd (omega arith)
names-next f (y ∷ xs) zero x within at = ap (λ z. f z ∷ []) (sym at)
names-next f (y ∷ xs) (suc n) x within at =
    let one : suc n + 1 ≡ suc (n + 1) = omega arith in
    ap (λ m. map f (take m (y ∷ xs))) one ∙ ap (λ ys. f y ∷ ys) (names-next f xs n x (omega (arith, within)) at)

pub all-first : {A : Type 0} (P : A → Type 0) (xs : List A) (n : ℕ) (x : A) → n < length xs → x ≡ get_or xs n x → All P (take n xs) → P x → All P (take (n + 1) xs)
all-first P [] n x within at all here = absurd (omega arith)
all-first P (y ∷ xs) zero x within at all here = All-cons P y [] (subst P at here) (All-nil P)
all-first P (y ∷ xs) (suc n) x within at all here =
    let one : suc (n + 1) ≡ suc n + 1 = omega arith in
    subst (λ m. All P (take m (y ∷ xs))) one
    (All-cons P y (take (n + 1) xs) (All-head P y (take n xs) all) (all-first P xs n x (omega (arith, within)) at (All-tail P y (take n xs) all) here))

pub if-some-map : {A : Type 0} {P Q : A → Type 0} (o : Option A) → ((x : A) → P x → Q x) → IfSome o P → IfSome o Q
if-some-map None f h = h
if-some-map (Some x) f h = f x h

-- what is read first
pub first-of-reads : {A B : Type 0} (f : B → Option Spot) (g : A → B) (xs : List A) (x : A) → (length xs ≡ 0 → ⊥) → x ≡ get_or xs 0 x → first_read (map f (map g xs)) ≡ f (g x)
first-of-reads f g [] x some at = absurd (some refl)
first-of-reads f g (y ∷ xs) x some at = ap (λ z. f (g z)) (sym at)
