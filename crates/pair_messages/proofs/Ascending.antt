-- What passes of an ascending list that leaves out nothing of a range that passes.
use Rattle.std.proofs.Common.{◌≡◌, ℕ, ◌+◌, ◌<◌, ◌⊎◌, inl, inr, Bool, true, false, if◌then◌else◌, List, [], ◌∷◌, ◌++◌, filter, refl, sym, ◌∙◌, ap, arith}
use Rattle.std.specs.List.{range_with_len}
use Rattle.std.specs.List.Sorted.{IsStrictlyIncreasing}
use Rattle.gap_table.proofs.AscendingLists.{In, Rising, filter-in, filter-rising, in-filter, one_list, rising-from, rising-lower}

pub in-part : (P : ℕ → Bool) (xs : List ℕ) (x : ℕ) → In x (filter P xs) → In x xs × (P x ≡ true)
in-part P [] x i = absurd i
in-part P (y ∷ xs) x i = by_case (P y) refl i (in-part P xs x)
  where
    by_case : (b : Bool) → P y ≡ b → In x (if b then y ∷ filter P xs else filter P xs) → (In x (filter P xs) → In x xs × (P x ≡ true)) → ((x ≡ y) ⊎ In x xs) × (P x ≡ true)
    by_case true is (inl same) rest = (inl same, ap P same ∙ is)
    by_case true is (inr i) rest = let h = rest i in (inr h.0, h.1)
    by_case false is i rest = let h = rest i in (inr h.0, h.1)

part-in : (P : ℕ → Bool) (xs : List ℕ) (x : ℕ) → In x xs → P x ≡ true → In x (filter P xs)
part-in P [] x i passes = absurd i
part-in P (y ∷ xs) x (inl same) passes = here (P y) (ap P (sym same) ∙ passes)
  where
    here : (b : Bool) → b ≡ true → In x (if b then y ∷ filter P xs else filter P xs)
    here true is = inl same
    here false is = absurd cc
part-in P (y ∷ xs) x (inr i) passes = later (P y) (part-in P xs x i passes)
  where
    later : (b : Bool) → In x (filter P xs) → In x (if b then y ∷ filter P xs else filter P xs)
    later true i = inr i
    later false i = i

rising-part : (P : ℕ → Bool) (lo : ℕ) (xs : List ℕ) → Rising lo xs → Rising lo (filter P xs)
rising-part P lo [] rises = tt
rising-part P lo (x ∷ xs) rises = by_case (P x) (rising-part P (x + 1) xs rises.1)
  where
    by_case : (b : Bool) → Rising (x + 1) (filter P xs) → Rising lo (if b then x ∷ filter P xs else filter P xs)
    by_case true rest = (rises.0, rest)
    by_case false rest = rising-lower lo (x + 1) (filter P xs) (let a = rises.0 in omega (arith, a)) rest

pub same-part : (P : ℕ → Bool) (extent : ℕ) (xs : List ℕ) → IsStrictlyIncreasing xs → ((x : ℕ) → In x xs → x < extent) → ((x : ℕ) → x < extent → P x ≡ true → In x xs)
    → filter P xs ≡ filter P (range_with_len 0 extent)
same-part P extent xs rises below every =
    one_list 0 (filter P xs) (filter P (range_with_len 0 extent)) (rising-part P 0 xs (rising-from 0 xs rises (λ some. omega arith))) (filter-rising P 0 extent)
    (λ x i. let h = in-part P xs x i in let b = below x h.0 in filter-in P 0 extent x (omega arith) (omega (arith, b)) h.1)
    (λ x i. let h = in-filter P 0 extent x i in let b = h.1 in part-in P xs x (every x (omega (arith, b)) h.2) h.2)

-- members of two lists together
pub in-left : (xs ys : List ℕ) (x : ℕ) → In x xs → In x (xs ++ ys)
in-left [] ys x i = absurd i
in-left (y ∷ xs) ys x (inl same) = inl same
in-left (y ∷ xs) ys x (inr i) = inr (in-left xs ys x i)

pub in-right : (xs ys : List ℕ) (x : ℕ) → In x ys → In x (xs ++ ys)
in-right [] ys x i = i
in-right (y ∷ xs) ys x i = inr (in-right xs ys x i)

pub in-either : (xs ys : List ℕ) (x : ℕ) → In x (xs ++ ys) → In x xs ⊎ In x ys
in-either [] ys x i = inr i
in-either (y ∷ xs) ys x (inl same) = inl (inl same)
in-either (y ∷ xs) ys x (inr i) = by_rest (in-either xs ys x i)
  where
    by_rest : In x xs ⊎ In x ys → ((x ≡ y) ⊎ In x xs) ⊎ In x ys
    by_rest (inl i) = inl (inr i)
    by_rest (inr i) = inr i
