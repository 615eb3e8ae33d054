-- Lists of numbers that pass a test.
use Rattle.std.proofs.Common.{◌≡◌, ℕ, zero, suc, ◌+◌, ◌<◌, ◌≤◌, nat_eq, ◌||◌, ◌&&◌, Bool, true, false, cond, List, [], ◌∷◌, filter, All, refl, ◌∙◌, ap, arith, eq-eqb, ◌⊎◌, inl, inr}
use Rattle.std.proofs.lemmas.Bool.{cases_order, ne_eqb}
use Rattle.std.proofs.lemmas.List.Elements.{All-filter}
use Rattle.std.specs.List.{list_any, range_with_len}
use Rattle.hpf_base.proofs.Ranges.{All-range}
use Rattle.axis_products.specs.Products.{passing}
use Rattle.axis_walks.specs.Lists.{AreBelow}

-- a number is one of the list
abbrev pub is_one : ℕ → List ℕ → Bool
is_one k xs = list_any (λ x. nat_eq x k) xs

-- ascending, and none is less than lo
abbrev pub Rising : ℕ → List ℕ → Type 0
Rising lo [] = Unit {0}
Rising lo (x ∷ xs) = (lo ≤ x) × Rising (x + 1) xs

rising-lower : (lo hi : ℕ) (xs : List ℕ) → lo ≤ hi → Rising hi xs → Rising lo xs
rising-lower lo hi [] le h = tt
rising-lower lo hi (x ∷ xs) le h = (let a = h.0 in omega (arith, a, le), h.1)

rising-cond : (b : Bool) (lo : ℕ) (rest : List ℕ) → Rising (lo + 1) rest → Rising lo (cond b (lo ∷ rest) rest)
rising-cond true lo rest h = (omega arith, h)
rising-cond false lo rest h = rising-lower lo (lo + 1) rest (omega arith) h

pub filter-rising : (p : ℕ → Bool) (lo n : ℕ) → Rising lo (filter p (range_with_len lo n))
filter-rising p lo zero = tt
filter-rising p lo (suc n) = rising-cond (p lo) lo (filter p (range_with_len (lo + 1) n)) (filter-rising p (lo + 1) n)

-- what is less than all isn't one of them
pub none-below : (lo k : ℕ) (xs : List ℕ) → Rising lo xs → k < lo → is_one k xs ≡ false
none-below lo k [] h lt = refl
none-below lo k (x ∷ xs) h lt =
    let a = h.0 in
    ap (λ b. b || is_one k xs) (ne_eqb x k (λ e. omega (arith, a, lt, e))) ∙ none-below (x + 1) k xs h.1 (omega (arith, a, lt))

one-of : (p : ℕ → Bool) (lo n k : ℕ) → lo ≤ k → k < lo + n → is_one k (filter p (range_with_len lo n)) ≡ p k
one-of p lo zero k ge lt = absurd (omega (arith, ge, lt))
one-of p lo (suc n) k ge lt = by_order (cases_order lo k) (λ (less : lo < k). one-of p (lo + 1) n k (omega (arith, less)) (omega (arith, lt)))
  where
    here : (b : Bool) → p lo ≡ b → lo ≡ k → is_one k (cond b (lo ∷ filter p (range_with_len (lo + 1) n)) (filter p (range_with_len (lo + 1) n))) ≡ b
    here true e same = ap (λ b. b || is_one k (filter p (range_with_len (lo + 1) n))) (eq-eqb lo k same)
    here false e same = none-below (lo + 1) k (filter p (range_with_len (lo + 1) n)) (filter-rising p (lo + 1) n) (omega (arith, same))

    later : (b : Bool) → lo < k → is_one k (filter p (range_with_len (lo + 1) n)) ≡ p k
        → is_one k (cond b (lo ∷ filter p (range_with_len (lo + 1) n)) (filter p (range_with_len (lo + 1) n))) ≡ p k
    later true less rest = ap (λ b. b || is_one k (filter p (range_with_len (lo + 1) n))) (ne_eqb lo k (λ e. omega (arith, less, e))) ∙ rest
    later false less rest = rest

    by_order : (lo ≡ k) ⊎ ((lo < k) ⊎ (k < lo)) → (lo < k → is_one k (filter p (range_with_len (lo + 1) n)) ≡ p k)
        → is_one k (cond (p lo) (lo ∷ filter p (range_with_len (lo + 1) n)) (filter p (range_with_len (lo + 1) n))) ≡ p k
    by_order (inl same) rest = here (p lo) refl same ∙ ap p same
    by_order (inr (inl less)) rest = later (p lo) less (rest less)
    by_order (inr (inr more)) rest = absurd (omega (arith, more, ge))

-- a number below n is one of those below n that pass just where it passes
pub one-passing : (p : ℕ → Bool) (n k : ℕ) → k < n → is_one k (filter p (range_with_len 0 n)) ≡ p k
one-passing p n k lt = one-of p 0 n k (omega arith) (omega (arith, lt))

pub filter-below : (p : ℕ → Bool) (n : ℕ) → All (λ k. k < n) (filter p (range_with_len 0 n))
filter-below p n = All-filter p (λ k. k < n) (range_with_len 0 n) (All-range (λ k. k < n) 0 n (λ j ge lt. omega (arith, lt)))

pub passing-below : (test : ℕ → ℕ → Bool) (axis : ℕ) (extents : List ℕ) → AreBelow extents (passing test axis extents)
passing-below test axis [] = tt
passing-below test axis (extent ∷ extents) = (filter-below (test axis) extent, passing-below test (axis + 1) extents)

-- what passes two tests
pub filter-filter : (p q r : ℕ → Bool) (lo n : ℕ) → ((k : ℕ) → lo ≤ k → k < lo + n → r k ≡ q k)
    → filter r (filter p (range_with_len lo n)) ≡ filter (λ k. p k && q k) (range_with_len lo n)
filter-filter p q r lo zero same = refl
filter-filter p q r lo (suc n) same =
    by_case (p lo) (filter-filter p q r (lo + 1) n (λ k ge lt. same k (omega (arith, ge)) (omega (arith, lt))))
  where
    by_case : (b : Bool) → filter r (filter p (range_with_len (lo + 1) n)) ≡ filter (λ k. p k && q k) (range_with_len (lo + 1) n)
        → filter r (cond b (lo ∷ filter p (range_with_len (lo + 1) n)) (filter p (range_with_len (lo + 1) n)))
        ≡ cond (b && q lo) (lo ∷ filter (λ k. p k && q k) (range_with_len (lo + 1) n)) (filter (λ k. p k && q k) (range_with_len (lo + 1) n))
    by_case true rest =
        ap (λ d. cond d (lo ∷ filter r (filter p (range_with_len (lo + 1) n))) (filter r (filter p (range_with_len (lo + 1) n)))) (same lo (omega arith) (omega arith))
        ∙ ap (λ xs. cond (q lo) (lo ∷ xs) xs) rest
    by_case false rest = rest
