-- Numbers of a range that pass.
use Rattle.std.proofs.Common.{◌≡◌, ℕ, zero, suc, ◌+◌, ◌-◌, ◌<◌, ◌≤◌, Bool, true, false, if◌then◌else◌, ℤ, List, [], ◌∷◌, ◌++◌, map, length, get_or, refl, sym, ◌∙◌, ap, subst, arith}
use Rattle.std.specs.List.{range_with_len, filter}
use Rattle.std.proofs.lemmas.List.Elements.{filter-append}
use Rattle.hpf_base.proofs.Ranges.{range_with_len-more}
use Rattle.machine_steps.specs.Node.{no_values}
use Rattle.letters.specs.Parcel.{Parcel}

range-more : (n : ℕ) → range_with_len 0 (n + 1) ≡ range_with_len 0 n ++ n ∷ []
range-more n =
    let e : n + 1 - 0 ≡ n + 1 = omega arith in
    let g : n - 0 ≡ n = omega arith in
    subst (λ k. range_with_len 0 k ≡ range_with_len 0 n ++ n ∷ []) e (subst (λ k. range_with_len 0 (n + 1 - 0) ≡ range_with_len 0 k ++ n ∷ []) g (range_with_len-more 0 n (omega arith)))

module _ {A : Type 0} (f : ℕ → A) (P : ℕ → Bool) where
  mapped-append : (xs ys : List ℕ) → map f (xs ++ ys) ≡ map f xs ++ map f ys
  mapped-append [] ys = refl
  mapped-append (x ∷ xs) ys = ap (λ l. f x ∷ l) (mapped-append xs ys)

  one-more : (n : ℕ) (b : Bool) → map f (if b then n ∷ [] else []) ≡ (if b then f n ∷ [] else [])
  one-more n true = refl
  one-more n false = refl

  -- one number more
  pub picked-more : (n : ℕ) → map f (filter P (range_with_len 0 (n + 1))) ≡ map f (filter P (range_with_len 0 n)) ++ (if P n then f n ∷ [] else [])
  picked-more n =
      ap (λ l. map f (filter P l)) (range-more n) ∙ ap (map f) (filter-append P (range_with_len 0 n) (n ∷ []))
      ∙ mapped-append (filter P (range_with_len 0 n)) (if P n then n ∷ [] else []) ∙ ap (λ l. map f (filter P (range_with_len 0 n)) ++ l) (one-more n (P n))

pub no_values-more : (n : ℕ) → no_values (n + 1) ≡ no_values n ++ [] ∷ []
no_values-more zero = refl
no_values-more (suc n) =
    let e : suc n + 1 ≡ suc (n + 1) = omega arith in
    rw e (ap (λ l. [] ∷ l) (no_values-more n))

length-no_values : (n : ℕ) → length (no_values n) ≡ n
length-no_values zero = refl
length-no_values (suc n) = ap suc (length-no_values n)

pub no_values-length : (n : ℕ) (rows : List (List ℤ)) → rows ≡ no_values n → length rows ≡ n
no_values-length n rows e = ap length e ∙ length-no_values n

-- numbers of a range are below its end
range-below : (n lo hi : ℕ) → lo + n ≤ hi → (k : ℕ) (d : ℕ) → k < length (range_with_len lo n) → get_or (range_with_len lo n) k d < hi
range-below zero lo hi le k d lt = absurd (omega arith)
range-below (suc n) lo hi le zero d lt = omega arith
range-below (suc n) lo hi le (suc k) d lt = range-below n (lo + 1) hi (omega arith) k d (omega arith)

filter-below : (P : ℕ → Bool) (hi : ℕ) (xs : List ℕ) → ((k : ℕ) (d : ℕ) → k < length xs → get_or xs k d < hi) → (k : ℕ) (d : ℕ) → k < length (filter P xs) → get_or (filter P xs) k d < hi
filter-below P hi [] h k d lt = absurd (omega arith)
filter-below P hi (x ∷ xs) h k d lt = by_case (P x) (filter-below P hi xs (λ k d lt. h (suc k) d (omega arith))) k d lt
  where
    by_case : (b : Bool) → ((k : ℕ) (d : ℕ) → k < length (filter P xs) → get_or (filter P xs) k d < hi) → (k : ℕ) (d : ℕ) → k < length (if b then x ∷ filter P xs else filter P xs)
        → get_or (if b then x ∷ filter P xs else filter P xs) k d < hi
    by_case true rest zero d lt = h zero d (omega arith)
    by_case true rest (suc k) d lt = rest k d (omega arith)
    by_case false rest k d lt = rest k d lt

map-below : {A : Type 0} (f : ℕ → A) (number : A → ℕ) (same : (q : ℕ) → number (f q) ≡ q) (hi : ℕ) (xs : List ℕ) → ((k : ℕ) (d : ℕ) → k < length xs → get_or xs k d < hi)
    → (k : ℕ) (d : A) → k < length (map f xs) → number (get_or (map f xs) k d) < hi
map-below f number same hi [] h k d lt = absurd (omega arith)
map-below f number same hi (x ∷ xs) h zero d lt = let e = same x in let b = h zero 0 (omega arith) in omega (arith, e, b)
map-below f number same hi (x ∷ xs) h (suc k) d lt = map-below f number same hi xs (λ k d lt. h (suc k) d (omega arith)) k d (omega arith)

pub parcels-below : (f : ℕ → Parcel) (same : (q : ℕ) → (f q).to ≡ q) (P : ℕ → Bool) (n : ℕ) (xs : List Parcel) → xs ≡ map f (filter P (range_with_len 0 n))
    → (k : ℕ) (d : Parcel) → k < length xs → (get_or xs k d).to < n
parcels-below f same P n xs e =
    subst (λ l. (k : ℕ) (d : Parcel) → k < length l → (get_or l k d).to < n) (sym e)
    (map-below f (λ p. p.to) same n (filter P (range_with_len 0 n)) (filter-below P n (range_with_len 0 n) (range-below n 0 n (omega arith))))
