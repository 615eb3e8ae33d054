-- Names of a nest by the slots and rows of the machine.
use Rattle.std.proofs.Common.{◌≡◌, ℕ, zero, suc, ◌+◌, ◌<◌, nat_eq, List, [], ◌∷◌, ◌++◌, length, map, slice_index_or, slice_set, ℤ, pos, Bool, true, false, Some, None, if◌then◌else◌, refl, sym, ap, ◌∙◌, subst, arith, length-set, get_or-set_same, get_or-set_other}
use Rattle.std.proofs.lemmas.Bool.Decides.{nat_tests}
use Rattle.expression_rules.specs.declared.dims.Dim.{Dim}
use Rattle.storage.specs.Storage.{Storage}
use Rattle.array_meaning.specs.State.{State, Array, no_array, array, scalar}
use Rattle.array_meaning.specs.Iterations.{with_indices}
use Rattle.code_meaning.specs.Flat.{slot}
use Rattle.lowered_expressions.proofs.Terms.{HoldsScalars, HoldsArrays}
use Rattle.statement_trail.specs.NestParts.{index_in}
use Rattle.nest_join.specs.MachineState.{listed_from, machine_array, machine_state}

-- ---- lists by their places

pub listed-at : {A : Type 0} (f : ℕ → A) (k n i : ℕ) (d : A) → i < n → slice_index_or (listed_from f k n) i d ≡ f (k + i)
listed-at f k zero i d lt = absurd (omega (arith, lt))
listed-at f k (suc n) zero d lt = let e : k ≡ k + 0 = omega arith in ap f e
listed-at f k (suc n) (suc i) d lt = let e : suc k + i ≡ k + suc i = omega arith in listed-at f (suc k) n i d (omega (arith, lt)) ∙ ap f e

pub listed-length : {A : Type 0} (f : ℕ → A) (k n : ℕ) → length (listed_from f k n) ≡ n
listed-length f k zero = refl
listed-length f k (suc n) = ap suc (listed-length f (suc k) n)

module _ (n : ℕ) (shapes : List (List Dim)) (slots : List ℤ) (rows : Storage) where
  pub machine-scalar : (k : ℕ) → k < n → scalar (machine_state n shapes slots rows) k ≡ slot slots k
  machine-scalar k lt = listed-at (slot slots) 0 n k (pos 0) lt ∙ let e : 0 + k ≡ k = omega arith in ap (slot slots) e

  pub machine-array : (a : ℕ) → a < n → array (machine_state n shapes slots rows) a ≡ machine_array n shapes slots rows a
  machine-array a lt = listed-at (machine_array n shapes slots rows) 0 n a no_array lt ∙ let e : 0 + a ≡ a = omega arith in ap (machine_array n shapes slots rows) e

  pub machine-scalars : HoldsScalars n (machine_state n shapes slots rows) slots
  machine-scalars k lt = sym (machine-scalar k lt)

  pub machine-arrays : HoldsArrays n shapes (machine_state n shapes slots rows) rows
  machine-arrays = record {
    elements = λ a lt. sym (ap (λ (x : Array). x.elements) (machine-array a lt));
    shape = λ a lt. ap (λ (x : Array). x.dims) (machine-array a lt);
    places = listed-length (slot slots) 0 n;
  }

-- ---- places of names

pub eq-is : (a b : ℕ) → nat_eq a b ≡ true → a ≡ b
eq-is a b e = grind (arith, nat_tests, e)

pub ne-is : (a b : ℕ) → nat_eq a b ≡ false → b ≡ a → ⊥
ne-is a b e z = grind (arith, nat_tests, e, z)

-- the place of a number in a list
pub in-from : (xs : List ℕ) (i k j : ℕ) → index_in xs i k ≡ Some j → (q : ℕ) × (j ≡ i + q) × (q < length xs) × (slice_index_or xs q 0 ≡ k)
in-from [] i k j h = cc
in-from (x ∷ xs) i k j h = by_test (nat_eq x k) refl h (in-from xs (suc i) k j)
  where
    by_test : (t : Bool) → nat_eq x k ≡ t → (if t then Some i else index_in xs (suc i) k) ≡ Some j
        → (index_in xs (suc i) k ≡ Some j → (q : ℕ) × (j ≡ suc i + q) × (q < length xs) × (slice_index_or xs q 0 ≡ k))
        → (q : ℕ) × (j ≡ i + q) × (q < suc (length xs)) × (slice_index_or (x ∷ xs) q 0 ≡ k)
    by_test true e h g = (0, (let z : i ≡ j = cc in let y : j ≡ i + 0 = omega (arith, z) in y), omega arith, eq-is x k e)
    by_test false e h g = let r = g h in (suc r.0, (let z = r.1 in let y : j ≡ i + suc r.0 = omega (arith, z) in y), (let z = r.2 in omega (arith, z)), r.3)

-- the values of a list by its places, at the first place of a number
pub in-values : (f : ℕ → ℤ) (xs : List ℕ) (i k j : ℕ) → index_in xs i k ≡ Some j → (q : ℕ) × (j ≡ i + q) × (slice_index_or (map f xs) q (pos 0) ≡ f k)
in-values f [] i k j h = cc
in-values f (x ∷ xs) i k j h = by_test (nat_eq x k) refl h (in-values f xs (suc i) k j)
  where
    by_test : (t : Bool) → nat_eq x k ≡ t → (if t then Some i else index_in xs (suc i) k) ≡ Some j
        → (index_in xs (suc i) k ≡ Some j → (q : ℕ) × (j ≡ suc i + q) × (slice_index_or (map f xs) q (pos 0) ≡ f k))
        → (q : ℕ) × (j ≡ i + q) × (slice_index_or (map f (x ∷ xs)) q (pos 0) ≡ f k)
    by_test true e h g = let x_is : x ≡ k = eq-is x k e in (0, (let z : i ≡ j = cc in let y : j ≡ i + 0 = omega (arith, z) in y), ap f x_is)
    by_test false e h g = let r = g h in (suc r.0, (let z = r.1 in let y : j ≡ i + suc r.0 = omega (arith, z) in y), r.2)

-- in two lists one after the other
pub in-both-none : (xs ys : List ℕ) (i k : ℕ) → index_in xs i k ≡ None → index_in (xs ++ ys) i k ≡ index_in ys (i + length xs) k
in-both-none [] ys i k h = let e : i ≡ i + 0 = omega arith in ap (λ z. index_in ys z k) e
in-both-none (x ∷ xs) ys i k h = by_test (nat_eq x k) h (in-both-none xs ys (suc i) k)
  where
    by_test : (t : Bool) → (if t then Some i else index_in xs (suc i) k) ≡ None → (index_in xs (suc i) k ≡ None → index_in (xs ++ ys) (suc i) k ≡ index_in ys (suc i + length xs) k)
        → (if t then Some i else index_in (xs ++ ys) (suc i) k) ≡ index_in ys (i + suc (length xs)) k
    by_test true h g = cc
    by_test false h g = let e : suc i + length xs ≡ i + suc (length xs) = omega arith in g h ∙ ap (λ z. index_in ys z k) e

pub in-both-some : (xs ys : List ℕ) (i k j : ℕ) → index_in xs i k ≡ Some j → index_in (xs ++ ys) i k ≡ Some j
in-both-some [] ys i k j h = cc
in-both-some (x ∷ xs) ys i k j h = by_test (nat_eq x k) h (in-both-some xs ys (suc i) k j)
  where
    by_test : (t : Bool) → (if t then Some i else index_in xs (suc i) k) ≡ Some j → (index_in xs (suc i) k ≡ Some j → index_in (xs ++ ys) (suc i) k ≡ Some j)
        → (if t then Some i else index_in (xs ++ ys) (suc i) k) ≡ Some j
    by_test true h g = h
    by_test false h g = g h

shifted : (i k : ℕ) (ys : List ℕ) (a l : ℕ) → index_in ys a k ≡ Some l → index_in ys (i + a) k ≡ Some (i + l)
shifted i k [] a l h = cc
shifted i k (y ∷ ys) a l h = by_test (nat_eq y k) h (shifted i k ys (suc a) l)
  where
    by_test : (t : Bool) → (if t then Some a else index_in ys (suc a) k) ≡ Some l → (index_in ys (suc a) k ≡ Some l → index_in ys (i + suc a) k ≡ Some (i + l))
        → (if t then Some (i + a) else index_in ys (suc (i + a)) k) ≡ Some (i + l)
    by_test true h g = let e : a ≡ l = cc in ap (λ x. Some (i + x)) e
    by_test false h g = let e : i + suc a ≡ suc (i + a) = omega arith in subst (λ x. index_in ys x k ≡ Some (i + l)) e (g h)

pub in-later : (xs : List ℕ) (i k j : ℕ) → index_in xs 0 k ≡ Some j → index_in xs i k ≡ Some (i + j)
in-later xs i k j h = let z : i + 0 ≡ i = omega arith in subst (λ y. index_in xs y k ≡ Some (i + j)) z (shifted i k xs 0 j h)

-- ---- states with indices

pub with-arrays : (xs : List ℕ) (vs : List ℤ) (s : State) → (with_indices xs vs s).arrays ≡ s.arrays
with-arrays [] vs s = refl
with-arrays (x ∷ xs) [] s = refl
with-arrays (x ∷ xs) (v ∷ vs) s = with-arrays xs vs s

pub with-scalars : (xs : List ℕ) (vs : List ℤ) (s : State) → length (with_indices xs vs s).scalars ≡ length s.scalars
with-scalars [] vs s = refl
with-scalars (x ∷ xs) [] s = refl
with-scalars (x ∷ xs) (v ∷ vs) s = length-set (with_indices xs vs s).scalars x v ∙ with-scalars xs vs s

pub with-other : (xs : List ℕ) (vs : List ℤ) (s : State) (i k : ℕ) → index_in xs i k ≡ None → scalar (with_indices xs vs s) k ≡ scalar s k
with-other [] vs s i k h = refl
with-other (x ∷ xs) [] s i k h = refl
with-other (x ∷ xs) (v ∷ vs) s i k h = by_test (nat_eq x k) refl h (with-other xs vs s (suc i) k)
  where
    by_test : (t : Bool) → nat_eq x k ≡ t → (if t then Some i else index_in xs (suc i) k) ≡ None
        → (index_in xs (suc i) k ≡ None → scalar (with_indices xs vs s) k ≡ scalar s k) → scalar (with_indices (x ∷ xs) (v ∷ vs) s) k ≡ scalar s k
    by_test true e h g = cc
    by_test false e h g = get_or-set_other (with_indices xs vs s).scalars x k v (pos 0) (ne-is x k e) ∙ g h

pub with-here : (xs : List ℕ) (vs : List ℤ) (s : State) (i k j : ℕ) → k < length s.scalars → length xs ≡ length vs → index_in xs i k ≡ Some j
    → (q : ℕ) × (j ≡ i + q) × (scalar (with_indices xs vs s) k ≡ slice_index_or vs q (pos 0))
with-here [] vs s i k j lt many h = cc
with-here (x ∷ xs) [] s i k j lt many h = absurd (omega (arith, many))
with-here (x ∷ xs) (v ∷ vs) s i k j lt many h = by_test (nat_eq x k) refl h (with-here xs vs s (suc i) k j lt (omega (arith, many)))
  where
    by_test : (t : Bool) → nat_eq x k ≡ t → (if t then Some i else index_in xs (suc i) k) ≡ Some j
        → (index_in xs (suc i) k ≡ Some j → (q : ℕ) × (j ≡ suc i + q) × (scalar (with_indices xs vs s) k ≡ slice_index_or vs q (pos 0)))
        → (q : ℕ) × (j ≡ i + q) × (scalar (with_indices (x ∷ xs) (v ∷ vs) s) k ≡ slice_index_or (v ∷ vs) q (pos 0))
    by_test true e h g =
        let x_is : x ≡ k = eq-is x k e in
        let l = with-scalars xs vs s in (
          0,
          (let z : i ≡ j = cc in let y : j ≡ i + 0 = omega (arith, z) in y),
          subst (λ y. slice_index_or (slice_set (with_indices xs vs s).scalars y v) k (pos 0) ≡ v) (sym x_is) (get_or-set_same (with_indices xs vs s).scalars k v (pos 0) (omega (arith, l, lt))),
        )
    by_test false e h g =
        let r = g h in (
          suc r.0,
          (let z = r.1 in let y : j ≡ i + suc r.0 = omega (arith, z) in y),
          get_or-set_other (with_indices xs vs s).scalars x k v (pos 0) (ne-is x k e) ∙ r.2,
        )

-- indices that have the values of a function
pub with-values : (xs : List ℕ) (f : ℕ → ℤ) (s : State) (i k j : ℕ) → k < length s.scalars → index_in xs i k ≡ Some j → scalar (with_indices xs (map f xs) s) k ≡ f k
with-values [] f s i k j lt h = cc
with-values (x ∷ xs) f s i k j lt h = by_test (nat_eq x k) refl h (with-values xs f s (suc i) k j lt)
  where
    by_test : (t : Bool) → nat_eq x k ≡ t → (if t then Some i else index_in xs (suc i) k) ≡ Some j
        → (index_in xs (suc i) k ≡ Some j → scalar (with_indices xs (map f xs) s) k ≡ f k) → scalar (with_indices (x ∷ xs) (map f (x ∷ xs)) s) k ≡ f k
    by_test true e h g =
        let l = with-scalars xs (map f xs) s in
        subst (λ y. slice_index_or (slice_set (with_indices xs (map f xs) s).scalars y (f y)) k (pos 0) ≡ f k) (sym (eq-is x k e))
        (get_or-set_same (with_indices xs (map f xs) s).scalars k (f k) (pos 0) (omega (arith, l, lt)))
    by_test false e h g = get_or-set_other (with_indices xs (map f xs) s).scalars x k (f x) (pos 0) (ne-is x k e) ∙ g h

-- no place, wherever the count begins
pub none-later : (i k : ℕ) (ys : List ℕ) (a : ℕ) → index_in ys a k ≡ None → index_in ys (i + a) k ≡ None
none-later i k [] a h = refl
none-later i k (y ∷ ys) a h = by_test (nat_eq y k) h (none-later i k ys (suc a))
  where
    by_test : (t : Bool) → (if t then Some a else index_in ys (suc a) k) ≡ None → (index_in ys (suc a) k ≡ None → index_in ys (i + suc a) k ≡ None)
        → (if t then Some (i + a) else index_in ys (suc (i + a)) k) ≡ None
    by_test true h g = cc
    by_test false h g = let e : i + suc a ≡ suc (i + a) = omega arith in subst (λ x. index_in ys x k ≡ None) e (g h)
