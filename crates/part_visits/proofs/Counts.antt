-- Numbers that pass, counted.
use Rattle.std.proofs.Common.{◌≡◌, ℕ, zero, suc, ◌+◌, ◌<◌, ◌≤◌, ◌==◌, Bool, true, false, if◌then◌else◌, refl, sym, ◌∙◌, ap, arith}
use Rattle.std.proofs.lemmas.Bool.{eqb-false, eqb-true}
use Rattle.machine_steps.specs.Layout.{count_passing}
use Rattle.owner_tables.proofs.Ranges.{count-most}

-- where as many pass as there are, each does
pub all-pass : (P : ℕ → Bool) (lo len k : ℕ) → count_passing P lo len ≡ len → lo ≤ k → k < lo + len → P k ≡ true
all-pass P lo zero k all from below = absurd (omega (arith, from, below))
all-pass P lo (suc len) k all from below =
    by_first (P lo) refl all
    (λ apart rest. all-pass P (lo + 1) len k rest (let d = eqb-false lo k apart in omega (arith, from, d)) (omega (arith, below)))
  where
    by_place : (b : Bool) → (lo == k) ≡ b → P lo ≡ true → ((lo == k) ≡ false → P k ≡ true) → P k ≡ true
    by_place true same passes later = ap P (sym (eqb-true lo k same)) ∙ passes
    by_place false apart passes later = later apart

    by_first : (b : Bool) → P lo ≡ b → (if b then suc (count_passing P (lo + 1) len) else count_passing P (lo + 1) len) ≡ suc len
        → ((lo == k) ≡ false → count_passing P (lo + 1) len ≡ len → P k ≡ true) → P k ≡ true
    by_first true passes e later = by_place (lo == k) refl passes (λ apart. later apart (omega (arith, e)))
    by_first false passes e later = let most = count-most P (lo + 1) len in absurd (omega (arith, most, e))
