-- Of a promise.
-- What contracts see of outcomes.
use Rattle.std.specs.Prelude.{◌≡◌, ℕ, List, ℤ, Bool, true, false}
use Rattle.array_meaning.specs.Faults.{Fault, Location, AtTuple}
use Rattle.machine_steps.specs.Instr.{Outcome, Nothing, Value, Breaks}
use Rattle.term_values.specs.declared.stops.Stop.{Stop}
use Rattle.term_values.specs.declared.stops.Stop.TheVariants as stop
use Rattle.term_values.specs.Stops.{cause}
use Rattle.term_values.specs.Faults.{fault}
use Rattle.tuple_values.specs.declared.outcome.Outcome.{Outcome as HeldOutcome}
use Rattle.tuple_values.specs.declared.outcome.Outcome.TheVariants as held

abbrev pub outcome_view : HeldOutcome → Outcome Fault
outcome_view held.Nothing = Nothing
outcome_view (held.Value v) = Value v
outcome_view (held.Breaks f) = Breaks (fault f)

-- where the fault of an evaluation at a tuple is, if faults have their tuples, and else where it is by itself
abbrev pub located_in : Bool → List ℤ → Location → Location
located_in true x at = AtTuple x
located_in false x at = at

-- the outcome of an evaluation that stopped at a tuple; want of memory has none
abbrev pub IsBroken : ℕ → Bool → List ℤ → Stop → HeldOutcome → Type 0
IsBroken line located x (stop.Fault c) o =
    outcome_view o ≡ Breaks (record { line = line; kind = (cause c).kind; at = located_in located x (cause c).at })
IsBroken line located x stop.Memory o = ⊥
