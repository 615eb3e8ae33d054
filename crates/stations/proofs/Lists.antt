-- Lists that change at one place, and what stands at a place.
use Rattle.std.proofs.Common.{◌≡◌, ◌≢◌, ℕ, zero, suc, ◌+◌, ◌<◌, ◌≤◌, ◌==◌, List, [], ◌∷◌, ◌++◌, length, map, set, if◌then◌else◌, ◌⊎◌}
use Rattle.std.proofs.Common.{inl, inr, refl, ap, ◌∙◌, ⊎_elim, length-append, arith, sym}
use Rattle.std.specs.Prelude.{Option, Some, None, slice_get, IfSome, option_map}
use Rattle.std.proofs.lemmas.Bool.Decides.{eqb_tells}
use Rattle.std.proofs.lemmas.Option.{slice_get-map, slice_get_cases, same_Some}

-- an element after a write: the one that was written, or another
pub got_set : {A : Type 0} (xs : List A) (k j : ℕ) (y z : A) → slice_get (set xs k y) j ≡ Some z → ((j ≡ k) × (y ≡ z)) ⊎ ((j ≢ k) × (slice_get xs j ≡ Some z))
got_set [] zero j y z e = cc
got_set [] (suc k) j y z e = cc
got_set (x ∷ xs) zero zero y z e = inl (refl, cc)
got_set (x ∷ xs) zero (suc j) y z e = inr ((λ p. omega arith), e)
got_set (x ∷ xs) (suc k) zero y z e = inr ((λ p. omega arith), e)
got_set (x ∷ xs) (suc k) (suc j) y z e = ⊎_elim (λ (w : (j ≡ k) × (y ≡ z)). inl (ap suc w.0, w.1))
    (λ (w : (j ≢ k) × (slice_get xs j ≡ Some z)). inr ((λ p. w.0 (omega arith)), w.1)) (got_set xs k j y z e)

pub got_map : {A B : Type 0} (f : A → B) (xs : List A) (k : ℕ) (x : A) → slice_get xs k ≡ Some x → slice_get (map f xs) k ≡ Some (f x)
got_map f xs k x e = slice_get-map f xs k ∙ ap (option_map f) e

pub none_map : {A B : Type 0} (f : A → B) (xs : List A) (k : ℕ) → slice_get xs k ≡ None → slice_get (map f xs) k ≡ None
none_map f xs k e = slice_get-map f xs k ∙ ap (option_map f) e

pub got_of_map : {A B : Type 0} (f : A → B) (xs : List A) (k : ℕ) (y : B) → slice_get (map f xs) k ≡ Some y → (x : A) × (slice_get xs k ≡ Some x) × (f x ≡ y)
got_of_map f [] k y e = cc
got_of_map f (x ∷ xs) zero y e = (x, refl, same_Some (f x) y e)
got_of_map f (x ∷ xs) (suc k) y e = got_of_map f xs k y e

pub got_below : {A : Type 0} (xs : List A) (k : ℕ) → k < length xs → (x : A) × (slice_get xs k ≡ Some x)
got_below xs k h = ⊎_elim (λ w. (w.0, w.2)) (λ w. absurd (omega (arith, h, w.0))) (slice_get_cases xs k).1

pub none_from : {A : Type 0} (xs : List A) (k : ℕ) → slice_get xs k ≡ None → length xs ≤ k
none_from [] k e = omega arith
none_from (x ∷ xs) zero e = cc
none_from (x ∷ xs) (suc k) e = let h : length xs ≤ k = none_from xs k e in omega (arith, h)

-- nothing follows a list with which it is no longer
pub no_rest : {A : Type 0} (xs ys : List A) → length (xs ++ ys) ≡ length xs → ys ≡ []
no_rest xs [] e = refl
no_rest xs (y ∷ ys) e = let l : length (xs ++ y ∷ ys) ≡ length xs + suc (length ys) = length-append xs (y ∷ ys) in absurd (omega (arith, l, e))

pub if_some : {A : Type 0} (r : Option A) (P : A → Type 0) → ((x : A) → r ≡ Some x → P x) → IfSome r P
if_some None P f = tt
if_some (Some x) P f = f x refl

pub some_if : {A : Type 0} (r : Option A) (P : A → Type 0) (x : A) → r ≡ Some x → IfSome r P → P x
some_if None P x e h = cc
some_if (Some y) P x e h = let s : y ≡ x = cc in rw (sym s) h

-- a list of one element where a test of equality holds
pub only_same : {A : Type 0} (k : ℕ) (x : A) → (if k == k then x ∷ [] else []) ≡ x ∷ []
only_same k x = ⊎_elim (λ w. ap (λ b. if b then x ∷ [] else []) w.0) (λ w. absurd (w.1 refl)) (eqb_tells k k)

pub only_other : {A : Type 0} (k j : ℕ) (x : A) → j ≢ k → (if j == k then x ∷ [] else []) ≡ []
only_other k j x ne = ⊎_elim (λ w. absurd (ne w.1)) (λ w. ap (λ b. if b then x ∷ [] else []) w.0) (eqb_tells j k)

pub map_twice : {A B D : Type 0} (f : A → B) (g : B → D) (xs : List A) → map g (map f xs) ≡ map (λ x. g (f x)) xs
map_twice f g [] = refl
map_twice f g (x ∷ xs) = ap (λ l. g (f x) ∷ l) (map_twice f g xs)

-- what stands where two lists meet
pub got_seam : {A : Type 0} (xs : List A) (y : A) (ys : List A) → slice_get (xs ++ y ∷ ys) (length xs) ≡ Some y
got_seam [] y ys = refl
got_seam (x ∷ xs) y ys = got_seam xs y ys

-- an element of a list with one more: one of the list, or that one
pub got_more : {A : Type 0} (xs : List A) (y z : A) (k : ℕ) → slice_get (xs ++ y ∷ []) k ≡ Some z → (slice_get xs k ≡ Some z) ⊎ ((k ≡ length xs) × (y ≡ z))
got_more [] y z zero e = inr (refl, cc)
got_more [] y z (suc k) e = cc
got_more (x ∷ xs) y z zero e = inl e
got_more (x ∷ xs) y z (suc k) e = ⊎_elim (λ w. inl w) (λ w. inr (ap suc w.0, w.1)) (got_more xs y z k e)
