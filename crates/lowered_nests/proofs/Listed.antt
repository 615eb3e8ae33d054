-- The scalars that a nest assigns, and those whose copies an expression reads, as lists.
use Rattle.std.proofs.Common.{◌≡◌, ℕ, zero, suc, ◌+◌, ◌<◌, ◌≤◌, nat_eq, List, [], ◌∷◌, ◌++◌, Bool, true, false, true≢false, if◌then◌else◌, Some, None, refl, sym, ap, ap₂, ◌∙◌, arith}
use Rattle.std.specs.Prelude.{◌||◌, ◌&&◌}
use Rattle.std.proofs.lemmas.Bool.Decides.{nat_tests}
use Rattle.std.proofs.lemmas.List.Folds.{list_any-append}
use Rattle.array_meaning.specs.Iterations.{is_in}
use Rattle.statement_trail.specs.NestParts.{index_in, each_once, among_from, of_these}
use Rattle.program_code.specs.Places.{AreDistinct}
use Rattle.nest_join.proofs.Names.{eq-is}

pub turned : (a b : ℕ) → nat_eq a b ≡ nat_eq b a
turned a b = grind (arith, nat_tests)

pub and-off : (b : Bool) → (b && false) ≡ false
and-off true = refl
and-off false = refl

-- ---- a place in a list, and membership

pub in-some : (xs : List ℕ) (i k : ℕ) → is_in k xs ≡ true → (j : ℕ) × (index_in xs i k ≡ Some j)
in-some [] i k h = absurd (true≢false (sym h))
in-some (x ∷ xs) i k h = by_test (nat_eq x k) refl (ap (λ b. b || is_in k xs) (turned x k) ∙ h) (in-some xs (suc i) k)
  where
    by_test : (t : Bool) → nat_eq x k ≡ t → (nat_eq x k || is_in k xs) ≡ true → (is_in k xs ≡ true → (j : ℕ) × (index_in xs (suc i) k ≡ Some j))
        → (j : ℕ) × ((if t then Some i else index_in xs (suc i) k) ≡ Some j)
    by_test true e h g = (i, refl)
    by_test false e h g = g (sym (ap (λ b. b || is_in k xs) e) ∙ h)

pub in-none : (xs : List ℕ) (i k : ℕ) → is_in k xs ≡ false → index_in xs i k ≡ None
in-none [] i k h = refl
in-none (x ∷ xs) i k h = by_test (nat_eq x k) refl (ap (λ b. b || is_in k xs) (turned x k) ∙ h) (in-none xs (suc i) k)
  where
    by_test : (t : Bool) → nat_eq x k ≡ t → (nat_eq x k || is_in k xs) ≡ false → (is_in k xs ≡ false → index_in xs (suc i) k ≡ None)
        → (if t then Some i else index_in xs (suc i) k) ≡ None
    by_test true e h g = absurd (true≢false (sym (ap (λ b. b || is_in k xs) e) ∙ h))
    by_test false e h g = g (sym (ap (λ b. b || is_in k xs) e) ∙ h)

pub is-in : (xs : List ℕ) (i k j : ℕ) → index_in xs i k ≡ Some j → is_in k xs ≡ true
is-in xs i k j h = by_test (is_in k xs) refl
  where
    by_test : (t : Bool) → is_in k xs ≡ t → t ≡ true
    by_test true e = refl
    by_test false e = let z = in-none xs i k e in absurd cc

pub not-in : (xs : List ℕ) (i k : ℕ) → index_in xs i k ≡ None → is_in k xs ≡ false
not-in xs i k h = by_test (is_in k xs) refl
  where
    by_test : (t : Bool) → is_in k xs ≡ t → t ≡ false
    by_test true e = let z = in-some xs i k e in let y = z.1 in absurd cc
    by_test false e = refl

pub in-self : (k : ℕ) → is_in k (k ∷ []) ≡ true
in-self k = let e : nat_eq k k ≡ true = grind (arith, nat_tests) in ap (λ b. b || false) e

-- ---- in ascending order

-- what is among so many numbers from one on
pub record IsAmong (ks : List ℕ) (first count k : ℕ) : Type 0 where
  pub listed : is_in k ks ≡ true
  pub from : first ≤ k
  pub below : k < first + count

module _ (ks : List ℕ) where
  among-later : (first count k : ℕ) → IsAmong ks (suc first) count k → IsAmong ks first (suc count) k
  among-later first count k h =
      let from = h.from in
      let below = h.below in
      record { listed = h.listed; from = omega (arith, from); below = omega (arith, below) }

  pub among-is : (first count k : ℕ) → is_in k (among_from ks first count) ≡ true → IsAmong ks first count k
  among-is first zero k h = absurd (true≢false (sym h))
  among-is first (suc count) k h = by_test (is_in first ks) refl h (λ e. among-later first count k (among-is (suc first) count k e))
    where
      others : List ℕ
      others = among_from ks (suc first) count

      by_first : is_in first ks ≡ true → (t : Bool) → nat_eq k first ≡ t → (nat_eq k first || is_in k others) ≡ true → (is_in k others ≡ true → IsAmong ks first (suc count) k)
          → IsAmong ks first (suc count) k
      by_first e true f h later =
          let same : k ≡ first = eq-is k first f in record { listed = ap (λ y. is_in y ks) same ∙ e; from = omega (arith, same); below = omega (arith, same) }
      by_first e false f h later = later (sym (ap (λ b. b || is_in k others) f) ∙ h)

      by_test : (t : Bool) → is_in first ks ≡ t → is_in k (if t then first ∷ others else others) ≡ true → (is_in k others ≡ true → IsAmong ks first (suc count) k)
          → IsAmong ks first (suc count) k
      by_test true e h later = by_first e (nat_eq k first) refl h later
      by_test false e h later = later h

  pub is-among : (first count k : ℕ) → IsAmong ks first count k → is_in k (among_from ks first count) ≡ true
  is-among first zero k h = let from = h.from in let below = h.below in absurd (omega (arith, from, below))
  is-among first (suc count) k h = by_test (is_in first ks) refl (nat_eq k first) refl (λ f.
      let from = h.from in
      let below = h.below in
      is-among (suc first) count k (record { listed = h.listed; from = grind (arith, nat_tests, from, f); below = omega (arith, below) }))
    where
      others : List ℕ
      others = among_from ks (suc first) count

      on : (b : Bool) → (b || true) ≡ true
      on true = refl
      on false = refl

      by_test : (t : Bool) → is_in first ks ≡ t → (u : Bool) → nat_eq k first ≡ u → (nat_eq k first ≡ false → is_in k others ≡ true)
          → is_in k (if t then first ∷ others else others) ≡ true
      by_test true e true f later = ap (λ b. b || is_in k others) f
      by_test true e false f later = ap (λ b. nat_eq k first || b) (later f) ∙ on (nat_eq k first)
      by_test false e true f later = absurd (true≢false (sym h.listed ∙ ap (λ y. is_in y ks) (eq-is k first f) ∙ e))
      by_test false e false f later = later f

  pub among-apart : (first count : ℕ) → AreDistinct (among_from ks first count)
  among-apart first zero = tt
  among-apart first (suc count) = by_test (is_in first ks) (among-apart (suc first) count)
    where
      others : List ℕ
      others = among_from ks (suc first) count

      off : (t : Bool) → is_in first others ≡ t → t ≡ false
      off true e = let r = among-is (suc first) count first e in let z = r.from in absurd (omega (arith, z))
      off false e = refl

      by_test : (t : Bool) → AreDistinct others → AreDistinct (if t then first ∷ others else others)
      by_test true h = (in-none others 0 first (off (is_in first others) refl), h)
      by_test false h = h

-- ---- each once

pub once-in : (xs : List ℕ) (k : ℕ) → is_in k (each_once xs) ≡ is_in k xs
once-in [] k = refl
once-in (x ∷ xs) k = by_test (is_in x xs) refl (nat_eq k x) refl (once-in xs k)
  where
    by_test : (t : Bool) → is_in x xs ≡ t → (u : Bool) → nat_eq k x ≡ u → is_in k (each_once xs) ≡ is_in k xs
        → is_in k (if t then each_once xs else x ∷ each_once xs) ≡ (nat_eq k x || is_in k xs)
    by_test true e true f h = h ∙ ap (λ y. is_in y xs) (eq-is k x f) ∙ e ∙ sym (ap (λ b. b || is_in k xs) f)
    by_test true e false f h = h ∙ sym (ap (λ b. b || is_in k xs) f)
    by_test false e u f h = ap (λ b. nat_eq k x || b) h

pub these-in : (ss xs : List ℕ) (k : ℕ) → is_in k (of_these ss xs) ≡ (is_in k xs && is_in k ss)
these-in ss [] k = refl
these-in ss (x ∷ xs) k = by_test (is_in x ss) refl (nat_eq k x) refl (these-in ss xs k)
  where
    by_test : (t : Bool) → is_in x ss ≡ t → (u : Bool) → nat_eq k x ≡ u → is_in k (of_these ss xs) ≡ (is_in k xs && is_in k ss)
        → is_in k (if t then x ∷ of_these ss xs else of_these ss xs) ≡ ((nat_eq k x || is_in k xs) && is_in k ss)
    by_test true e true f h =
        let own : is_in k ss ≡ true = ap (λ y. is_in y ss) (eq-is k x f) ∙ e in
        ap (λ b. b || is_in k (of_these ss xs)) f ∙ sym (ap₂ (λ b c. (b || is_in k xs) && c) f own)
    by_test true e false f h = ap (λ b. b || is_in k (of_these ss xs)) f ∙ h ∙ sym (ap (λ b. (b || is_in k xs) && is_in k ss) f)
    by_test false e true f h =
        let off : is_in k ss ≡ false = ap (λ y. is_in y ss) (eq-is k x f) ∙ e in
        h ∙ ap (λ c. is_in k xs && c) off ∙ and-off (is_in k xs) ∙ sym (ap₂ (λ b c. (b || is_in k xs) && c) f off)
    by_test false e false f h = h ∙ sym (ap (λ b. (b || is_in k xs) && is_in k ss) f)

-- the copies that are read
pub read-here : (ss xs : List ℕ) (k : ℕ) → is_in k xs ≡ true → is_in k ss ≡ true → (j : ℕ) × (index_in (each_once (of_these ss xs)) 0 k ≡ Some j)
read-here ss xs k h g = in-some (each_once (of_these ss xs)) 0 k (once-in (of_these ss xs) k ∙ these-in ss xs k ∙ ap₂ (λ a b. a && b) h g)

pub not-read : (ss xs : List ℕ) (k : ℕ) → is_in k ss ≡ false → index_in (each_once (of_these ss xs)) 0 k ≡ None
not-read ss xs k g = in-none (each_once (of_these ss xs)) 0 k (once-in (of_these ss xs) k ∙ these-in ss xs k ∙ ap (λ b. is_in k xs && b) g ∙ and-off (is_in k xs))

-- ---- lists one after the other

pub in-front : (xs ys : List ℕ) (k : ℕ) → is_in k xs ≡ true → is_in k (xs ++ ys) ≡ true
in-front xs ys k h = list_any-append (nat_eq k) xs ys ∙ ap (λ b. b || is_in k ys) h

pub in-back : (xs ys : List ℕ) (k : ℕ) → is_in k ys ≡ true → is_in k (xs ++ ys) ≡ true
in-back xs ys k h = list_any-append (nat_eq k) xs ys ∙ ap (λ b. is_in k xs || b) h ∙ on (is_in k xs)
  where
    on : (b : Bool) → (b || true) ≡ true
    on true = refl
    on false = refl

pub in-either : {Z : Type 0} (xs ys : List ℕ) (k : ℕ) → is_in k (xs ++ ys) ≡ true → (is_in k xs ≡ true → Z) → (is_in k ys ≡ true → Z) → Z
in-either {Z} xs ys k h left right = by_test (is_in k xs) refl
  where
    by_test : (t : Bool) → is_in k xs ≡ t → Z
    by_test true e = left e
    by_test false e = right (sym (ap (λ b. b || is_in k ys) e) ∙ sym (list_any-append (nat_eq k) xs ys) ∙ h)
