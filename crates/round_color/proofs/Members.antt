-- Membership by recursion, lists without one of their members, and lists in which nothing stands twice.
use Rattle.std.proofs.Common.{◌≡◌, ◌≢◌, ℕ, zero, suc, ◌+◌, ◌<◌, ◌≤◌, ◌⊎◌, inl, inr, Bool, true, false, if◌then◌else◌, List, [], ◌∷◌, length, map, filter, get_or, refl, sym, ◌∙◌, ap, subst, arith}
use Rattle.std.proofs.lemmas.Bool.{cases_eq}
use Rattle.std.proofs.lemmas.List.Elements.{All-head, All-tail}
use Rattle.std.specs.List.{All, AllPairs, Contains, range_with_len}

abbrev pub Truth : Bool → Type 0
Truth true = Unit {0}
Truth false = ⊥

pub true-false : true ≡ false → ⊥
true-false e = subst Truth e tt

-- ---- members

abbrev pub In : {X : Type 0} → X → List X → Type 0
In x [] = ⊥
In x (y ∷ ys) = (x ≡ y) ⊎ In x ys

pub contains-in : {X : Type 0} (x : X) (xs : List X) → Contains xs x → In x xs
contains-in x [] h = let below = h.1 in absurd (omega arith)
contains-in {X = X} x (y ∷ ys) h = by_place h.0 h.1 h.2 (λ k below is. contains-in x ys (k, below, is))
  where
    by_place : (k : ℕ) → k < length (y ∷ ys) → get_or (y ∷ ys) k x ≡ x → ((k : ℕ) → k < length ys → get_or ys k x ≡ x → In x ys) → (x ≡ y) ⊎ In x ys
    by_place zero below is ih = inl (sym is)
    by_place (suc k) below is ih = inr (ih k (omega arith) is)

pub in-contains : {X : Type 0} (x : X) (xs : List X) → In x xs → Contains xs x
in-contains x [] h = absurd h
in-contains x (y ∷ ys) (inl e) = (0, omega arith, sym e)
in-contains x (y ∷ ys) (inr h) = let r = in-contains x ys h in let below = r.1 in (suc r.0, omega arith, r.2)

pub all-in : {X : Type 0} (P : X → Type 0) (x : X) (xs : List X) → All P xs → In x xs → P x
all-in P x [] all h = absurd h
all-in P x (y ∷ ys) all (inl e) = subst P (sym e) (All-head P y ys all)
all-in P x (y ∷ ys) all (inr h) = all-in P x ys (All-tail P y ys all) h

pub in-get : {X : Type 0} (xs : List X) (d : X) (i : ℕ) → i < length xs → In (get_or xs i d) xs
in-get [] d i below = absurd (omega arith)
in-get (x ∷ xs) d zero below = inl refl
in-get (x ∷ xs) d (suc i) below = inr (in-get xs d i (omega arith))

pub in-map : {X Y : Type 0} (f : X → Y) (x : X) (xs : List X) → In x xs → In (f x) (map f xs)
in-map f x [] h = h
in-map f x (y ∷ ys) (inl e) = inl (ap f e)
in-map f x (y ∷ ys) (inr h) = inr (in-map f x ys h)

pub length-mapped : {X Y : Type 0} (f : X → Y) (xs : List X) → length (map f xs) ≡ length xs
length-mapped f [] = refl
length-mapped f (x ∷ xs) = ap suc (length-mapped f xs)

pub in-filter : {X : Type 0} (test : X → Bool) (x : X) (xs : List X) → In x (filter test xs) → In x xs × (test x ≡ true)
in-filter test x [] h = absurd h
in-filter {X = X} test x (y ∷ ys) h = by_test (test y) refl h (in-filter test x ys)
  where
    by_test : (b : Bool) → test y ≡ b → In x (if b then y ∷ filter test ys else filter test ys) → (In x (filter test ys) → In x ys × (test x ≡ true))
        → ((x ≡ y) ⊎ In x ys) × (test x ≡ true)
    by_test true is (inl same) ih = (inl same, ap test same ∙ is)
    by_test true is (inr h) ih = let r = ih h in (inr r.0, r.1)
    by_test false is h ih = let r = ih h in (inr r.0, r.1)

-- what a function gives of a member that passes
pub in-row : {X Y : Type 0} (test : X → Bool) (g : X → Y) (x : X) (xs : List X) → test x ≡ true → In x xs → In (g x) (map g (filter test xs))
in-row test g x [] is h = h
in-row test g x (y ∷ ys) is (inl same) =
    subst (λ b. In (g x) (map g (if b then y ∷ filter test ys else filter test ys))) (sym (ap test (sym same) ∙ is)) (inl (ap g same))
in-row {X = X} {Y = Y} test g x (y ∷ ys) is (inr later) = by_test (test y) (in-row test g x ys is later)
  where
    by_test : (b : Bool) → In (g x) (map g (filter test ys)) → In (g x) (map g (if b then y ∷ filter test ys else filter test ys))
    by_test true ih = inr ih
    by_test false ih = ih

pub in-range : (lo len k : ℕ) → lo ≤ k → k < lo + len → In k (range_with_len lo len)
in-range lo zero k from below = absurd (omega arith)
in-range lo (suc len) k from below = by_case (cases_eq k lo) (λ further. in-range (lo + 1) len k further (omega arith))
  where
    by_case : (k ≡ lo) ⊎ (k ≡ lo → ⊥) → (lo + 1 ≤ k → In k (range_with_len (lo + 1) len)) → (k ≡ lo) ⊎ In k (range_with_len (lo + 1) len)
    by_case (inl e) ih = inl e
    by_case (inr ne) ih = inr (ih (omega (arith, ne)))

-- ---- a list without one of its members

pub record Without {X : Type 0} (x : X) (xs : List X) : Type 0 where
  pub rest : List X
  pub shorter : suc (length rest) ≤ length xs
  pub others : (y : X) → (y ≡ x → ⊥) → In y xs → In y rest

pub without : {X : Type 0} (x : X) (xs : List X) → In x xs → Without x xs
without {X = X} x [] h = absurd h
without {X = X} x (y ∷ ys) (inl e) = record { rest = ys; shorter = omega arith; others = λ z ne where_is. first_or_later z ne where_is }
  where
    first_or_later : (z : X) → (z ≡ x → ⊥) → (z ≡ y) ⊎ In z ys → In z ys
    first_or_later z ne (inl g) = absurd (ne (g ∙ sym e))
    first_or_later z ne (inr h) = h
without {X = X} x (y ∷ ys) (inr h) =
    let w = without x ys h in
    let s = w.shorter in
    record { rest = y ∷ w.rest; shorter = omega arith; others = λ z ne where_is. first_or_later w z ne where_is }
  where
    first_or_later : (w : Without x ys) (z : X) → (z ≡ x → ⊥) → (z ≡ y) ⊎ In z ys → (z ≡ y) ⊎ In z w.rest
    first_or_later w z ne (inl g) = inl g
    first_or_later w z ne (inr h) = inr (w.others z ne h)

-- ---- lists in which nothing stands twice

abbrev pub AreDistinct : {X : Type 0} → List X → Type 0
AreDistinct [] = Unit {0}
AreDistinct (x ∷ xs) = (In x xs → ⊥) × AreDistinct xs

pub pairs-distinct : {X : Type 0} (xs : List X) → AllPairs (λ one other. one ≢ other) xs → AreDistinct xs
pairs-distinct [] h = tt
pairs-distinct (x ∷ xs) h = (
  λ is. let r = in-contains x xs is in let below = r.1 in h 0 (suc r.0) x (omega arith) (omega arith) (sym r.2),
  pairs-distinct xs (λ i j d less below. h (suc i) (suc j) d (omega arith) (omega arith)),
)

pub apart-at : {X : Type 0} (xs : List X) (d : X) (i j : ℕ) → AreDistinct xs → i < j → j < length xs → get_or xs i d ≡ get_or xs j d → ⊥
apart-at [] d i j distinct less below same = absurd (omega arith)
apart-at (x ∷ xs) d i zero distinct less below same = absurd (omega arith)
apart-at (x ∷ xs) d zero (suc j) distinct less below same = distinct.0 (subst (λ y. In y xs) (sym same) (in-get xs d j (omega arith)))
apart-at (x ∷ xs) d (suc i) (suc j) distinct less below same = apart-at xs d i j distinct.1 (omega arith) (omega arith) same

pub filter-distinct : {X : Type 0} (test : X → Bool) (xs : List X) → AreDistinct xs → AreDistinct (filter test xs)
filter-distinct test [] h = h
filter-distinct {X = X} test (x ∷ xs) h = by_test (test x) (filter-distinct test xs h.1)
  where
    by_test : (b : Bool) → AreDistinct (filter test xs) → AreDistinct (if b then x ∷ filter test xs else filter test xs)
    by_test true ih = (λ is. h.0 (in-filter test x xs is).0, ih)
    by_test false ih = ih

-- a list in which nothing stands twice is no longer than one that has all its members
pub shorter : {X : Type 0} (xs ys : List X) → AreDistinct xs → ((x : X) → In x xs → In x ys) → length xs ≤ length ys
shorter [] ys distinct h = omega arith
shorter (x ∷ xs) ys distinct h =
    let w = without x ys (h x (inl refl)) in
    let s = w.shorter in
    let ih : length xs ≤ length w.rest = shorter xs w.rest distinct.1 (λ z is. w.others z (λ e. distinct.0 (subst (λ u. In u xs) e is)) (h z (inr is))) in
    omega arith
