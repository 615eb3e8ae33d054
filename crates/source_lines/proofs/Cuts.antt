-- A list that is cut into pieces: its first piece, and the pieces after it.
use Rattle.std.proofs.Common.{◌≡◌, ℕ, zero, suc, ◌+◌, ◌-◌, ◌≤◌, List, [], ◌∷◌, length, take, drop, refl, ap, subst, arith}
use Rattle.std.specs.List.{concat}
use Rattle.std.proofs.lemmas.List.{take-append-drop, length-drop}
use Rattle.source_lines.specs.Cut.{cut, cut_after}

-- after so many of the elements the rest is cut alike
pub cut_after-drop : {A : Type 0} (first : List A → ℕ) (xs : List A) (n : ℕ) → cut_after first xs n ≡ cut first (drop n xs)
cut_after-drop first [] zero = refl
cut_after-drop first [] (suc n) = refl
cut_after-drop first (x ∷ xs) zero = refl
cut_after-drop first (x ∷ xs) (suc n) = cut_after-drop first xs n

-- the first piece takes as many elements as are asked for, at least one, and the rest is cut alike
pub cut-cons : {A : Type 0} (first : List A → ℕ) (x : A) (xs : List A)
    → cut first (x ∷ xs) ≡ (x ∷ take (first (x ∷ xs) - 1) xs) ∷ cut first (drop (first (x ∷ xs) - 1) xs)
cut-cons first x xs = ap (λ pieces. (x ∷ take (first (x ∷ xs) - 1) xs) ∷ pieces) (cut_after-drop first xs (first (x ∷ xs) - 1))

-- where `first` takes n elements after the first one, these go with it
pub cut-head : {A : Type 0} (first : List A → ℕ) (x : A) (xs : List A) (n : ℕ) → first (x ∷ xs) ≡ n + 1 → cut first (x ∷ xs) ≡ (x ∷ take n xs) ∷ cut first (drop n xs)
cut-head first x xs n takes =
    let after : first (x ∷ xs) - 1 ≡ n = omega (arith, takes) in
    subst (λ k. cut first (x ∷ xs) ≡ (x ∷ take k xs) ∷ cut first (drop k xs)) after (cut-cons first x xs)

-- where `first` takes n elements of the list, and at least one, the first piece is these
pub cut-first : {A : Type 0} (first : List A → ℕ) (xs : List A) (n : ℕ) → first xs ≡ n → 1 ≤ n → n ≤ length xs
    → cut first xs ≡ take n xs ∷ cut first (drop n xs)
cut-first first [] zero is some within = absurd (omega arith)
cut-first first [] (suc n) is some within = absurd (omega arith)
cut-first first (x ∷ xs) zero is some within = absurd (omega arith)
cut-first first (x ∷ xs) (suc n) is some within =
    let e : first (x ∷ xs) - 1 ≡ n = omega arith in
    rw cut-cons (rw e refl)

concat-cut_within : (first : List ℕ → ℕ) (bound : ℕ) (xs : List ℕ) → length xs ≤ bound → concat (cut first xs) ≡ xs
concat-cut_within first bound [] within = refl
concat-cut_within first zero (x ∷ xs) within = absurd (omega arith)
concat-cut_within first (suc bound) (x ∷ xs) within =
    rw (cut_after-drop first xs (first (x ∷ xs) - 1))
    (rw (concat-cut_within first bound (drop (first (x ∷ xs) - 1) xs) (omega (arith, length-drop (first (x ∷ xs) - 1) xs)))
    (ap (λ (l : List ℕ). x ∷ l) (take-append-drop (first (x ∷ xs) - 1) xs)))

-- joined, the pieces are the list
pub concat-cut : (first : List ℕ → ℕ) (xs : List ℕ) → concat (cut first xs) ≡ xs
concat-cut first xs = concat-cut_within first (length xs) xs (omega arith)
