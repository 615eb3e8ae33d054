use Rattle.std.proofs.Common.{map, take}
use Rattle.comm_sets.specs.Marks.{Marked, any_moved}
use Rattle.comm_sets.proofs.Marking.{in_row}
use Rattle.comm_sets.proofs.marks.mark_elements.Given as goal

-- those of the samples so far
abbrev pub invariant-loop-at : goal.invariant-loop-at
invariant-loop-at l =
    Marked l.before.nodes l.initial.marks.items l.marks.items
    (any_moved l.before.nodes l.before.layouts l.after.layouts (map (in_row l.row) (take l.at-index l.at-items)))
