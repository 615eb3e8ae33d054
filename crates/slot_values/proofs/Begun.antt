-- A loop begins by its iteration count.
use Rattle.std.proofs.Common.{◌≡◌, ℕ, zero, suc, ◌-◌, ◌%◌, ◌^◌, ◌≤◌, pos, refl, ap, sym, subst, w64, Ok, arith}
use Rattle.std.specs.Int.{cast_signed, int_wrap}
use Rattle.op_tables.specs.Operators.{wrapped}
use Rattle.array_meaning.specs.declared.sections.Sequence.{Sequence}
use Rattle.array_meaning.specs.Faults.{Fault}
use Rattle.machine_steps.specs.Instr.{Control}
use Rattle.machine_steps.specs.Machine.{set_slot}
use Rattle.code_meaning.specs.Instructions.{begin_trips}

pub begins : (left target : ℕ) (p : Sequence) (c : Control Fault) → 1 ≤ p.count → set_slot c left (wrapped (pos (p.count - 1))) ≡ begin_trips left target (Ok p) c
begins left target p c some = by p.count refl some where
  by : (n : ℕ) → p.count ≡ n → 1 ≤ n → set_slot c left (wrapped (pos (p.count - 1))) ≡ begin_trips left target (Ok p) c
  by zero is h = let f : ⊥ = omega (arith, h) in absurd f
  by (suc n) is h =
      let left_of : suc n - 1 ≡ n = omega arith in
      subst (λ k. set_slot c left (wrapped (pos (k - 1))) ≡ begin_trips left target (Ok record { first = p.first; step = p.step; count = k }) c) (sym is)
      (ap (λ k. set_slot c left (wrapped (pos k))) left_of)

-- what 64 bits leave of a count
pub in_64_bits : (n : ℕ) → cast_signed w64 (n % 2 ^ 64) ≡ wrapped (pos n)
unfolding int_wrap
in_64_bits n = refl
