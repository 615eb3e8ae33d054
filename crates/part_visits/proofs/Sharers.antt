-- The owners of an element, in a list.
use Rattle.std.proofs.Common.{◌≡◌, ℕ, zero, suc, ◌+◌, ◌<◌, ◌≤◌, ◌==◌, ◌||◌, Bool, true, false, if◌then◌else◌, List, [], ◌∷◌, filter, length, take, get_or, slice_get, Some, None, refl, sym, ◌∙◌, ap, subst, arith, ◌⊎◌, inl, inr}
use Rattle.std.proofs.lemmas.Bool.{eqb-true}
use Rattle.std.proofs.lemmas.Option.{none-some, same_Some}
use Rattle.std.specs.List.{list_any, range_with_len}
use Rattle.machine_steps.specs.Layout.{first}

-- the first of those that pass
pub first-of : (P : ℕ → Bool) (lo len x : ℕ) (xs : List ℕ) → filter P (range_with_len lo len) ≡ xs → slice_get xs 0 ≡ Some x → first P lo len ≡ x
first-of P lo len x xs is at = from lo len (ap (λ l. slice_get l 0) is ∙ at)
  where
    from : (lo len : ℕ) → slice_get (filter P (range_with_len lo len)) 0 ≡ Some x → first P lo len ≡ x
    from lo zero e = absurd (none-some x e)
    from lo (suc len) e = by_case (P lo) (from (lo + 1) len) e
      where
        by_case : (b : Bool) → (slice_get (filter P (range_with_len (lo + 1) len)) 0 ≡ Some x → first P (lo + 1) len ≡ x)
            → slice_get (if b then lo ∷ filter P (range_with_len (lo + 1) len) else filter P (range_with_len (lo + 1) len)) 0 ≡ Some x
            → (if b then lo else first P (lo + 1) len) ≡ x
        by_case true rest e = same_Some lo x e
        by_case false rest e = rest e

-- where one passes there is a first
pub one-passes : (P : ℕ → Bool) (lo len n : ℕ) → lo ≤ n → n < lo + len → P n ≡ true → slice_get (filter P (range_with_len lo len)) 0 ≡ None → ⊥
one-passes P lo zero n from below passes none = absurd (omega arith)
one-passes P lo (suc len) n from below passes none =
    by_case (P lo) refl none (λ above e. one-passes P (lo + 1) len n (omega (arith, above, from)) (omega (arith, below)) passes e)
  where
    by_case : (b : Bool) → P lo ≡ b → slice_get (if b then lo ∷ filter P (range_with_len (lo + 1) len) else filter P (range_with_len (lo + 1) len)) 0 ≡ None
        → ((lo ≡ n → ⊥) → slice_get (filter P (range_with_len (lo + 1) len)) 0 ≡ None → ⊥) → ⊥
    by_case true is e rest = absurd (none-some lo (sym e))
    by_case false is e rest = rest above e
      where
        above : lo ≡ n → ⊥
        above same = let e : true ≡ false = sym passes ∙ ap P (sym same) ∙ is in absurd cc

-- what is among those that pass does
pub among-passing : (P : ℕ → Bool) (lo len k : ℕ) → list_any (λ n. n == k) (filter P (range_with_len lo len)) ≡ true → P k ≡ true
among-passing P lo zero k any = absurd cc
among-passing P lo (suc len) k any = by_case (P lo) refl any (among-passing P (lo + 1) len k)
  where
    here : (b : Bool) → (lo == k) ≡ b → P lo ≡ true → (b || list_any (λ n. n == k) (filter P (range_with_len (lo + 1) len))) ≡ true
        → (list_any (λ n. n == k) (filter P (range_with_len (lo + 1) len)) ≡ true → P k ≡ true) → P k ≡ true
    here true same is e rest = ap P (sym (eqb-true lo k same)) ∙ is
    here false same is e rest = rest e

    by_case : (b : Bool) → P lo ≡ b
        → list_any (λ n. n == k) (if b then lo ∷ filter P (range_with_len (lo + 1) len) else filter P (range_with_len (lo + 1) len)) ≡ true
        → (list_any (λ n. n == k) (filter P (range_with_len (lo + 1) len)) ≡ true → P k ≡ true) → P k ≡ true
    by_case true is e rest = here (lo == k) refl is e rest
    by_case false is e rest = rest e

-- among the first of a list, and one more
pub any-more : (ks : List ℕ) (n k : ℕ) → n < length ks → list_any (λ x. x == k) (take (n + 1) ks) ≡ true
    → (list_any (λ x. x == k) (take n ks) ≡ true) ⊎ (get_or ks n 0 ≡ k)
any-more [] n k within any = absurd (omega arith)
any-more (x ∷ xs) zero k within any = by_case (x == k) refl any
  where
    by_case : (b : Bool) → (x == k) ≡ b → (b || false) ≡ true → (false ≡ true) ⊎ (x ≡ k)
    by_case true is e = inr (eqb-true x k is)
    by_case false is e = inl e
any-more (x ∷ xs) (suc n) k within any =
    let one : suc n + 1 ≡ suc (n + 1) = omega arith in
    by_case (x == k) (subst (λ m. list_any (λ x. x == k) (take m (x ∷ xs)) ≡ true) one any) (any-more xs n k (omega (arith, within)))
  where
    by_case : (b : Bool) → (b || list_any (λ x. x == k) (take (n + 1) xs)) ≡ true
        → (list_any (λ x. x == k) (take (n + 1) xs) ≡ true → (list_any (λ x. x == k) (take n xs) ≡ true) ⊎ (get_or xs n 0 ≡ k))
        → ((b || list_any (λ x. x == k) (take n xs)) ≡ true) ⊎ (get_or xs n 0 ≡ k)
    by_case true e rest = inl refl
    by_case false e rest = rest e
