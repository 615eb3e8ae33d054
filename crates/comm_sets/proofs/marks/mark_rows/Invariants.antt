use Rattle.std.proofs.Common.{take}
use Rattle.machine_steps.specs.Layout.{sizes}
use Rattle.machine_steps.specs.Message.{spots_from}
use Rattle.comm_sets.specs.Marks.{Marked, any_moved}
use Rattle.comm_sets.proofs.marks.mark_rows.Given as goal

abbrev pub invariant-loop-row : goal.invariant-loop-row
invariant-loop-row l =
    Marked l.before.nodes l.initial.marks.items l.marks.items
    (any_moved l.before.nodes l.before.layouts l.after.layouts (spots_from 0 (take l.row (sizes l.before.layouts))))
