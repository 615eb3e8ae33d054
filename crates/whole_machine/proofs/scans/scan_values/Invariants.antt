use Rattle.std.proofs.Common.{◌≡◌, ◌+◌, take}
use Rattle.std.specs.List.{fold}
use Rattle.op_tables.specs.Joins.{join, unit}
use Rattle.scan_steps.proofs.InPlace.{replaced_to}
use Rattle.whole_machine.proofs.scans.scan_values.Given as goal

-- the first values are scanned, and joined they are what the next one is joined with
abbrev pub invariant-loop-at : goal.invariant-loop-at
invariant-loop-at l =
    (l.so_far.value ≡ fold (join l.op) (unit l.op) (take l.at l.initial.row))
    × (l.row ≡ replaced_to (λ at. fold (join l.op) (unit l.op) (take (at + 1) l.initial.row)) l.initial.row l.at)
