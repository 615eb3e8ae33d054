-- Spaces with tuples, and without.
use Rattle.std.proofs.Common.{◌≡◌, ℕ, zero, suc, ◌+◌, ◌<◌, ◌≤◌, ◌⊎◌, inl, inr, ◌==◌, Bool, true, false, if◌then◌else◌, List, length, get_or, refl, sym, ◌∙◌, ap, arith}
use Rattle.std.proofs.lemmas.Bool.{cases_eq, eqb-true, le-leb}
use Rattle.std.proofs.lemmas.List.{get_or_default}
use Rattle.hpf_base.specs.declared.limits.TheConstants.{MAX_ELEMENTS}
use Rattle.hpf_base.specs.ElementOrder.{product}
use Rattle.hpf_base.proofs.ElementOrder.{product-some}
use Rattle.machine_steps.specs.Space.{space_count}
use Rattle.aligned_copies.proofs.Beside.{counted}
use Rattle.aligned_copies.proofs.CopyLaws.{factors_some}

not-none : (n : ℕ) → (n ≡ 0 → ⊥) → 1 ≤ n
not-none zero other = absurd (other refl)
not-none (suc n) other = omega arith

is-some : (n : ℕ) → 1 ≤ n → false ≡ (n == 0)
is-some n some = by (n == 0) refl
  where
    by : (t : Bool) → (n == 0) ≡ t → false ≡ t
    by true is = absurd (let none : n ≡ 0 = eqb-true n 0 is in omega (arith, some, none))
    by false is = refl

module _ (ns : List ℕ) where
  -- an extent is 0
  pub none-there : (k : ℕ) → k < length ns → get_or ns k 0 ≡ 0 → true ≡ (space_count ns == 0)
  none-there k below none = by (space_count ns == 0) refl
    where
      by : (t : Bool) → (space_count ns == 0) ≡ t → true ≡ t
      by true is = refl
      by false is = absurd (let some : 1 ≤ get_or ns k 0 = factors_some ns (counted ns is).1 k 0 below in omega (arith, some, none))

  -- one extent more isn't 0
  pub one-more : (j : ℕ) → ((k : ℕ) → k < j → 1 ≤ get_or ns k 0) → (get_or ns j 0 ≡ 0 → ⊥) → (k : ℕ) → k < j + 1 → 1 ≤ get_or ns k 0
  one-more j before here k upto = by (cases_eq k j)
    where
      by : (k ≡ j) ⊎ (k ≡ j → ⊥) → 1 ≤ get_or ns k 0
      by (inl same) = let is : get_or ns k 0 ≡ get_or ns j 0 = ap (λ n. get_or ns n 0) same in omega (arith, is, not-none (get_or ns j 0) here)
      by (inr other) = before k (omega (arith, upto, other))

  -- none is
  pub all-some : (j : ℕ) → ((k : ℕ) → k < j → 1 ≤ get_or ns k 0) → length ns ≤ j → product ns ≤ MAX_ELEMENTS → false ≡ (space_count ns == 0)
  all-some j before all small =
      let some : 1 ≤ product ns = product-some ns
      (λ k d below. let is : get_or ns k d ≡ get_or ns k 0 = get_or_default ns k d 0 below in omega (arith, is, before k (omega (arith, below, all)))) in
      is-some (product ns) some ∙ ap (λ t. (if t then product ns else 0) == 0) (sym (le-leb (product ns) MAX_ELEMENTS small))
