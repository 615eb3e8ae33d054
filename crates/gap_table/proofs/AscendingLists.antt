-- Ascending lists of numbers with the same members are one list.
use Rattle.std.proofs.Common.{◌≡◌, ℕ, zero, suc, ◌+◌, ◌<◌, ◌≤◌, ◌⊎◌, inl, inr, Bool, true, false, cond, List, [], ◌∷◌, refl, sym, ◌∙◌, ap, subst, arith, length, get_or, map}
use Rattle.std.proofs.lemmas.Bool.{true≢false}
use Rattle.std.specs.Prelude.{filter}
use Rattle.std.specs.List.{Contains, range_with_len}
use Rattle.std.specs.List.Sorted.{IsStrictlyIncreasing}

-- ascending, and none is less than lo
abbrev pub Rising : ℕ → List ℕ → Type 0
Rising lo [] = Unit {0}
Rising lo (x ∷ xs) = (lo ≤ x) × Rising (x + 1) xs

abbrev pub In : ℕ → List ℕ → Type 0
In n [] = ⊥
In n (x ∷ xs) = (n ≡ x) ⊎ In n xs

pub rising-lower : (lo hi : ℕ) (xs : List ℕ) → lo ≤ hi → Rising hi xs → Rising lo xs
rising-lower lo hi [] le h = tt
rising-lower lo hi (x ∷ xs) le h = (let a = h.0 in omega (arith, a, le), h.1)

in-above : (lo n : ℕ) (xs : List ℕ) → Rising lo xs → In n xs → lo ≤ n
in-above lo n [] h i = absurd i
in-above lo n (x ∷ xs) h (inl e) = let a = h.0 in omega (arith, a, e)
in-above lo n (x ∷ xs) h (inr i) = let a = h.0 in let b : x + 1 ≤ n = in-above (x + 1) n xs h.1 i in omega (arith, a, b)

same_first : (x y : ℕ) (xs ys : List ℕ) → Rising (x + 1) xs → Rising (y + 1) ys → (x ≡ y) ⊎ In x ys → (y ≡ x) ⊎ In y xs → x ≡ y
same_first x y xs ys h k (inl e) _ = e
same_first x y xs ys h k (inr i) (inl e) = sym e
same_first x y xs ys h k (inr i) (inr j) =
    let a : y + 1 ≤ x = in-above (y + 1) x ys k i in
    let b : x + 1 ≤ y = in-above (x + 1) y xs h j in
    absurd (omega (arith, a, b))

same_later : (x y n : ℕ) (xs ys : List ℕ) → Rising (x + 1) xs → x ≡ y → In n xs → (n ≡ y) ⊎ In n ys → In n ys
same_later x y n xs ys h e i (inl e') = let a : x + 1 ≤ n = in-above (x + 1) n xs h i in absurd (omega (arith, a, e, e'))
same_later x y n xs ys h e i (inr j) = j

pub one_list : (lo : ℕ) (xs ys : List ℕ) → Rising lo xs → Rising lo ys → ((n : ℕ) → In n xs → In n ys) → ((n : ℕ) → In n ys → In n xs) → xs ≡ ys
one_list lo [] [] h k f g = refl
one_list lo [] (y ∷ ys) h k f g = absurd (g y (inl refl))
one_list lo (x ∷ xs) [] h k f g = absurd (f x (inl refl))
one_list lo (x ∷ xs) (y ∷ ys) h k f g =
    let e = same_first x y xs ys h.1 k.1 (f x (inl refl)) (g y (inl refl)) in
    let k' = subst (λ z. Rising (z + 1) ys) (sym e) k.1 in
    let tails = one_list (x + 1) xs ys h.1 k' (λ n i. same_later x y n xs ys h.1 e i (f n (inr i)))
    (λ n i. same_later x x n ys xs k' refl i (subst (λ z. (n ≡ x) ⊎ In n xs) e (g n (inr i)))) in
    λ i. e i ∷ tails i

pub rising-from : (lo : ℕ) (xs : List ℕ) → IsStrictlyIncreasing xs → (0 < length xs → lo ≤ get_or xs 0 0) → Rising lo xs
rising-from lo [] rises first = tt
rising-from lo (x ∷ xs) rises first = (
  first (omega arith),
  rising-from (x + 1) xs
      (λ k below. let e : suc k + 1 ≡ suc (k + 1) = omega arith in
      let long : length (x ∷ xs) ≡ suc (length xs) = refl in
      let inside : suc k + 1 < length (x ∷ xs) = omega (arith, below, long) in
      subst (λ j. get_or xs k 0 < get_or (x ∷ xs) j 0) e (rises (suc k) inside))
      (λ some. let long : length (x ∷ xs) ≡ suc (length xs) = refl in
      let inside : 0 + 1 < length (x ∷ xs) = omega (arith, some, long) in
      let h : x < get_or xs 0 0 = rises 0 inside in omega (arith, h)),
)

pub in-contains : (n : ℕ) (xs : List ℕ) → In n xs → Contains xs n
in-contains n [] i = absurd i
in-contains n (x ∷ xs) (inl e) = (0, let long : length (x ∷ xs) ≡ suc (length xs) = refl in omega (arith, long), sym e)
in-contains n (x ∷ xs) (inr i) =
    let c = in-contains n xs i in
    (suc c.0, let long : length (x ∷ xs) ≡ suc (length xs) = refl in let b = c.1 in omega (arith, long, b), c.2)

pub contains-in : (n : ℕ) (xs : List ℕ) → Contains xs n → In n xs
contains-in n [] (k, below, is) = absurd (let long : length xs_nil ≡ 0 = refl in omega (arith, below, long))
  where
    xs_nil : List ℕ
    xs_nil = []
contains-in n (x ∷ xs) (zero, below, is) = inl (sym is)
contains-in n (x ∷ xs) (suc k, below, is) = inr (contains-in n xs (k, (let long : length (x ∷ xs) ≡ suc (length xs) = refl in omega (arith, below, long)), is))

first_or_later : (j lo : ℕ) → lo ≤ j → (j ≡ lo) ⊎ (lo + 1 ≤ j)
first_or_later j lo low = grind arith

-- what is filtered of a range
rising-cond : (b : Bool) (lo : ℕ) (rest : List ℕ) → Rising (lo + 1) rest → Rising lo (cond b (lo ∷ rest) rest)
rising-cond true lo rest h = (omega arith, h)
rising-cond false lo rest h = rising-lower lo (lo + 1) rest (omega arith) h

pub filter-rising : (P : ℕ → Bool) (lo n : ℕ) → Rising lo (filter P (range_with_len lo n))
filter-rising P lo zero = tt
filter-rising P lo (suc n) = rising-cond (P lo) lo (filter P (range_with_len (lo + 1) n)) (filter-rising P (lo + 1) n)

in-cond : (b : Bool) (j lo : ℕ) (rest : List ℕ) → In j (cond b (lo ∷ rest) rest) → ((j ≡ lo) × (b ≡ true)) ⊎ In j rest
in-cond true j lo rest (inl e) = inl (e, refl)
in-cond true j lo rest (inr i) = inr i
in-cond false j lo rest i = inr i

cond-in : (b : Bool) (j lo : ℕ) (rest : List ℕ) → ((j ≡ lo) × (b ≡ true)) ⊎ In j rest → In j (cond b (lo ∷ rest) rest)
cond-in true j lo rest (inl e) = inl e.0
cond-in true j lo rest (inr i) = inr i
cond-in false j lo rest (inl e) = absurd (true≢false (sym e.1))
cond-in false j lo rest (inr i) = i

pub in-filter : (P : ℕ → Bool) (lo n j : ℕ) → In j (filter P (range_with_len lo n)) → (lo ≤ j) × (j < lo + n) × (P j ≡ true)
in-filter P lo zero j i = absurd i
in-filter P lo (suc n) j i = by_case (in-cond (P lo) j lo (filter P (range_with_len (lo + 1) n)) i) (in-filter P (lo + 1) n j)
  where
    by_case : ((j ≡ lo) × (P lo ≡ true)) ⊎ In j (filter P (range_with_len (lo + 1) n))
        → (In j (filter P (range_with_len (lo + 1) n)) → (lo + 1 ≤ j) × (j < lo + 1 + n) × (P j ≡ true)) → (lo ≤ j) × (j < lo + suc n) × (P j ≡ true)
    by_case (inl e) later = let a = e.0 in (omega (arith, a), omega (arith, a), ap P a ∙ e.1)
    by_case (inr i) later = let h = later i in let a = h.0 in let b = h.1 in (omega (arith, a), omega (arith, b), h.2)

pub filter-in : (P : ℕ → Bool) (lo n j : ℕ) → lo ≤ j → j < lo + n → P j ≡ true → In j (filter P (range_with_len lo n))
filter-in P lo zero j low high holds = absurd (omega (arith, low, high))
filter-in P lo (suc n) j low high holds = cond-in (P lo) j lo (filter P (range_with_len (lo + 1) n))
    (by_case (first_or_later j lo low) (λ more. filter-in P (lo + 1) n j more (omega (arith, high)) holds))
  where
    by_case : (j ≡ lo) ⊎ (lo + 1 ≤ j) → (lo + 1 ≤ j → In j (filter P (range_with_len (lo + 1) n))) → ((j ≡ lo) × (P lo ≡ true)) ⊎ In j (filter P (range_with_len (lo + 1) n))
    by_case (inl e) later = inl (e, ap P (sym e) ∙ holds)
    by_case (inr more) later = inr (later more)

-- what a function gives of a range
pub in-map_range : (f : ℕ → ℕ) (a n j : ℕ) → In j (map f (range_with_len a n)) → (i : ℕ) × (a ≤ i) × (i < a + n) × (j ≡ f i)
in-map_range f a zero j i = absurd i
in-map_range f a (suc n) j (inl e) = (a, omega arith, omega arith, e)
in-map_range f a (suc n) j (inr i) = let h = in-map_range f (a + 1) n j i in let b = h.1 in let c = h.2 in (h.0, omega (arith, b), omega (arith, c), h.3)

pub map_range-in : (f : ℕ → ℕ) (a n i : ℕ) → a ≤ i → i < a + n → In (f i) (map f (range_with_len a n))
map_range-in f a zero i low high = absurd (omega (arith, low, high))
map_range-in f a (suc n) i low high = by_case (first_or_later i a low) (λ more. map_range-in f (a + 1) n i more (omega (arith, high)))
  where
    by_case : (i ≡ a) ⊎ (a + 1 ≤ i) → (a + 1 ≤ i → In (f i) (map f (range_with_len (a + 1) n))) → (f i ≡ f a) ⊎ In (f i) (map f (range_with_len (a + 1) n))
    by_case (inl e) later = inl (ap f e)
    by_case (inr more) later = inr (later more)
