-- A loop whose step isn't 0 begins without a fault.
use Rattle.std.proofs.Common.{◌≡◌, ℕ, zero, suc, ℤ, Bool, true, false, Ok, refl, sym, if◌then◌else◌}
use Rattle.std.proofs.lemmas.Bool.{false≢true}
use Rattle.op_tables.specs.Operators.{is_zero, wrapped}
use Rattle.array_meaning.specs.declared.faults.FaultKind.TheVariants.{ZeroStride}
use Rattle.array_meaning.specs.Faults.{Fault, fails}
use Rattle.array_meaning.specs.Sections.{sequence, value_count}
use Rattle.machine_steps.specs.Instr.{Control}
use Rattle.code_meaning.specs.Instructions.{begin_trips}
use Rattle.code_meaning.specs.Parallel.{at_line}

module _ (left target line : ℕ) (c : Control Fault) where
  begun : (first step : ℤ) (count : ℕ) → (begin_trips left target (Ok (record { first = first; step = step; count = count })) c).status ≡ c.status
  begun first step zero = refl
  begun first step (suc n) = refl

  by_step : (first last step : ℤ) (none : Bool) → none ≡ false
      → (begin_trips left target (at_line line (if none then fails ZeroStride else Ok (record { first = first; step = step; count = value_count (wrapped first) (wrapped last) (wrapped step) }))) c).status ≡ c.status
  by_step first last step true e = absurd (false≢true (sym e))
  by_step first last step false e = begun first step _

  pub goes_on : (first last step : ℤ) → is_zero step ≡ false → (begin_trips left target (at_line line (sequence first last step)) c).status ≡ c.status
  goes_on first last step some = by_step first last step (is_zero step) some
