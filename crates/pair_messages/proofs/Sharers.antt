-- The owners of an element, in a list.
use Rattle.std.proofs.Common.{◌≡◌, ℕ, zero, suc, ◌+◌, ◌<◌, ◌==◌, Bool, true, false, if◌then◌else◌, List, [], ◌∷◌, filter, slice_get, Some, None, sym, ◌∙◌, ap, arith}
use Rattle.std.proofs.lemmas.Option.{none-some, same_Some}
use Rattle.std.specs.List.{list_any, range_with_len}
use Rattle.mappings.proofs.Sections.{same_test}
use Rattle.machine_steps.specs.Layout.{first}
use Rattle.visited_tuples.proofs.Members.{one-passing, passing-one}

-- the first of those that pass
pub first-of : (P : ℕ → Bool) (lo len x : ℕ) (xs : List ℕ) → filter P (range_with_len lo len) ≡ xs → slice_get xs 0 ≡ Some x → first P lo len ≡ x
first-of P lo len x xs is at = from lo len (ap (λ l. slice_get l 0) is ∙ at)
  where
    from : (lo len : ℕ) → slice_get (filter P (range_with_len lo len)) 0 ≡ Some x → first P lo len ≡ x
    from lo zero e = absurd (none-some x e)
    from lo (suc len) e = by_case (P lo) (from (lo + 1) len) e
      where
        by_case : (b : Bool) → (slice_get (filter P (range_with_len (lo + 1) len)) 0 ≡ Some x → first P (lo + 1) len ≡ x)
            → slice_get (if b then lo ∷ filter P (range_with_len (lo + 1) len) else filter P (range_with_len (lo + 1) len)) 0 ≡ Some x
            → (if b then lo else first P (lo + 1) len) ≡ x
        by_case true rest e = same_Some lo x e
        by_case false rest e = rest e

-- where one passes there is a first
pub one-passes : (P : ℕ → Bool) (len n : ℕ) → n < len → P n ≡ true → slice_get (filter P (range_with_len 0 len)) 0 ≡ None → ⊥
one-passes P len n within passes none =
    by_list (filter P (range_with_len 0 len)) none (one-passing P 0 len n (omega arith) (omega (arith, within)) passes)
  where
    by_list : (xs : List ℕ) → slice_get xs 0 ≡ None → list_any (λ v. v == n) xs ≡ true → ⊥
    by_list [] none any = cc
    by_list (x ∷ xs) none any = none-some x (sym none)

-- whether one passes, by those that do
pub is-passing : (P : ℕ → Bool) (len n : ℕ) → n < len → list_any (λ v. v == n) (filter P (range_with_len 0 len)) ≡ P n
is-passing P len n within =
    same_test (list_any (λ v. v == n) (filter P (range_with_len 0 len))) (P n) (λ any. (passing-one P 0 len n any).1)
    (λ passes. one-passing P 0 len n (omega arith) (omega (arith, within)) passes)
