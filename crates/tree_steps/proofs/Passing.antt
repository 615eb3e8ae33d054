-- The numbers that pass, of so many.
use Rattle.std.proofs.Common.{◌≡◌, ℕ, ◌+◌, ◌-◌, ◌<◌, ◌⊎◌, inl, inr, Bool, true, false, [], ◌∷◌, filter, max, min, refl, sym, ◌∙◌, ap, subst, arith}
use Rattle.std.proofs.lemmas.Bool.{cases_eq}
use Rattle.std.proofs.lemmas.Bool.Decides.{nat_tests}
use Rattle.std.specs.List.{range_with_len}
use Rattle.mappings.specs.Positions.{in_section}
use Rattle.mappings.proofs.Sections.{filter-range}

module _ (P : ℕ → Bool) (count : ℕ) where
  -- what doesn't pass fails
  fails : (j : ℕ) → (P j ≡ true → ⊥) → P j ≡ false
  fails j h = by_test (P j) refl
    where
      by_test : (b : Bool) → P j ≡ b → P j ≡ false
      by_test true e = absurd (h e)
      by_test false e = e

  -- one that passes alone
  pub one-passes : (k : ℕ) → k < count → P k ≡ true → ((j : ℕ) → j < count → P j ≡ true → j ≡ k) → k ∷ [] ≡ filter P (range_with_len 0 count)
  one-passes k lt passes alone =
      let first : max 0 k ≡ k = omega arith in
      let len : min (0 + count) (k + 1) - max 0 k ≡ 1 = omega arith in
      sym (filter-range P 0 count k k (λ j ge below. same j (omega arith) (cases_eq j k)) ∙ ap (λ a. range_with_len a (min (0 + count) (k + 1) - max 0 k)) first
      ∙ ap (range_with_len k) len)
    where
      here : (j : ℕ) → j ≡ k → true ≡ in_section k k j
      here j e = grind (arith, nat_tests)

      elsewhere : (j : ℕ) → (j ≡ k → ⊥) → false ≡ in_section k k j
      elsewhere j ne = grind (arith, nat_tests)

      same : (j : ℕ) → j < count → (j ≡ k) ⊎ (j ≡ k → ⊥) → P j ≡ in_section k k j
      same j lt (inl e) = subst (λ x. P x ≡ true) (sym e) passes ∙ here j e
      same j lt (inr ne) = fails j (λ h. ne (alone j lt h)) ∙ elsewhere j ne

  pub none-passes : ((j : ℕ) → j < count → P j ≡ true → ⊥) → [] ≡ filter P (range_with_len 0 count)
  none-passes none =
      let len : min (0 + count) (0 + 1) - max 0 1 ≡ 0 = omega arith in
      sym (filter-range P 0 count 1 0 (λ j ge below. fails j (none j (omega arith)) ∙ empty j) ∙ ap (range_with_len (max 0 1)) len)
    where
      empty : (j : ℕ) → false ≡ in_section 1 0 j
      empty j = grind (arith, nat_tests)
