-- The first of so many numbers that passes a test.
use Rattle.std.proofs.Common.{◌≡◌, ℕ, zero, suc, ◌+◌, ◌<◌, ◌≤◌, ◌⊎◌, inl, inr, Bool, true, false, if◌then◌else◌, refl, ◌∙◌, ap, subst, arith}
use Rattle.std.proofs.lemmas.Bool.{cases_eq}
use Rattle.round_color.specs.Coloring.{first_passing}

pub first_passing-bound : (P : ℕ → Bool) (lo len : ℕ) → (lo ≤ first_passing P lo len) × (first_passing P lo len ≤ lo + len)
first_passing-bound P lo zero = (omega arith, omega arith)
first_passing-bound P lo (suc len) = by_test (P lo) (first_passing-bound P (lo + 1) len)
  where
    by_test : (b : Bool) → (lo + 1 ≤ first_passing P (lo + 1) len) × (first_passing P (lo + 1) len ≤ lo + 1 + len)
        → (lo ≤ (if b then lo else first_passing P (lo + 1) len)) × ((if b then lo else first_passing P (lo + 1) len) ≤ lo + suc len)
    by_test true ih = (omega arith, omega arith)
    by_test false ih = (omega (arith, ih.0), omega (arith, ih.1))

pub first_passing-passes : (P : ℕ → Bool) (lo len : ℕ) → first_passing P lo len < lo + len → P (first_passing P lo len) ≡ true
first_passing-passes P lo zero below = absurd (omega arith)
first_passing-passes P lo (suc len) below = by_test (P lo) refl below (first_passing-passes P (lo + 1) len)
  where
    by_test : (b : Bool) → P lo ≡ b → (if b then lo else first_passing P (lo + 1) len) < lo + suc len
        → (first_passing P (lo + 1) len < lo + 1 + len → P (first_passing P (lo + 1) len) ≡ true)
        → P (if b then lo else first_passing P (lo + 1) len) ≡ true
    by_test true is below ih = is
    by_test false is below ih = ih (omega arith)

pub first_passing-before : (P : ℕ → Bool) (lo len k : ℕ) → lo ≤ k → k < first_passing P lo len → P k ≡ false
first_passing-before P lo zero k from below = absurd (omega arith)
first_passing-before P lo (suc len) k from below = by_test (P lo) refl below (cases_eq lo k) (λ further. first_passing-before P (lo + 1) len k further)
  where
    by_test : (b : Bool) → P lo ≡ b → k < (if b then lo else first_passing P (lo + 1) len) → (lo ≡ k) ⊎ (lo ≡ k → ⊥)
        → (lo + 1 ≤ k → k < first_passing P (lo + 1) len → P k ≡ false) → P k ≡ false
    by_test true is below either ih = absurd (omega arith)
    by_test false is below (inl e) ih = subst (λ n. P n ≡ false) e is
    by_test false is below (inr ne) ih = ih (omega (arith, ne)) below

-- ---- the steps of a loop that looks for it

pub first_passing-skip : (P : ℕ → Bool) (lo len more : ℕ) → more ≡ suc len → P lo ≡ false → first_passing P lo more ≡ first_passing P (lo + 1) len
first_passing-skip P lo len more is h = ap (first_passing P lo) is ∙ ap (λ b. if b then lo else first_passing P (lo + 1) len) h

pub first_passing-here : (P : ℕ → Bool) (lo len more : ℕ) → more ≡ suc len → P lo ≡ true → first_passing P lo more ≡ lo
first_passing-here P lo len more is h = ap (first_passing P lo) is ∙ ap (λ b. if b then lo else first_passing P (lo + 1) len) h

pub first_passing-end : (P : ℕ → Bool) (lo len : ℕ) → len ≡ 0 → first_passing P lo len ≡ lo
first_passing-end P lo len is = ap (first_passing P lo) is
