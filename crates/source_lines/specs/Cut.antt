-- Of the claim.
-- A list cut into pieces that stand one after the other.
use Rattle.std.specs.Prelude.{ℕ, zero, suc, ◌-◌, List, [], ◌∷◌, take}

-- the pieces after so many of the elements
abbrev pub cut_after : {A : Type 0} → (List A → ℕ) → List A → ℕ → List (List A)
cut_after first [] skipped = []
cut_after first (x ∷ xs) zero = (x ∷ take (first (x ∷ xs) - 1) xs) ∷ cut_after first xs (first (x ∷ xs) - 1)
cut_after first (x ∷ xs) (suc skipped) = cut_after first xs skipped

-- the pieces of a list, where `first` says how many of a list's elements its first piece takes, at least one
abbrev pub cut : {A : Type 0} → (List A → ℕ) → List A → List (List A)
cut first xs = cut_after first xs 0
