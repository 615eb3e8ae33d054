use Rattle.std.proofs.Common.{◌≡◌, ◌+◌, take}
use Rattle.machine_steps.specs.Node.{join_after, join_all, join_options}
use Rattle.op_tables.specs.Joins.{join, unit}
use Rattle.scan_steps.proofs.InPlace.{replaced_to}
use Rattle.scan_steps.proofs.values.scan_row.Given as goal

-- the first elements are scanned, and joined they are what the next one is joined with
abbrev pub invariant-loop-at : goal.invariant-loop-at
invariant-loop-at l =
    (l.so_far.value ≡ join_all (join l.op) (take l.at l.initial.row))
    × (l.row ≡ replaced_to (λ at. join_after (join l.op) (unit l.op) (join_options (join l.op) l.before (join_all (join l.op) (take (at + 1) l.initial.row)))) l.initial.row l.at)
