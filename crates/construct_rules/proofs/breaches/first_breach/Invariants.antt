use Rattle.std.proofs.Common.{◌≡◌, ◌-◌, false, None, drop}
use Rattle.construct_rules.specs.Found.{declared_length, found_from}
use Rattle.construct_rules.specs.ProgramLine.{lines_of}
use Rattle.construct_rules.specs.NestState.{state_at_start}
use Rattle.construct_rules.proofs.breaches.first_breach.Given as goal

abbrev pub invariant-loop-i : goal.invariant-loop-i
invariant-loop-i l =
    (found_from None state_at_start l.last (lines_of l.lines) ≡ found_from l.first l.state l.last (lines_of (drop l.i l.lines)))
    × (l.state.stated ≡ false → declared_length (drop l.i l.roles.items) ≡ l.declared - l.i)
