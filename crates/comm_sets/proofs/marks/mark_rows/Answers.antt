use Rattle.std.proofs.Common.{◌+◌, ◌<◌, length, take, arith}
use Rattle.std.proofs.lemmas.List.{length-map}
use Rattle.machine_steps.specs.Layout.{size_of, sizes}
use Rattle.machine_steps.specs.Message.{spots_from}
use Rattle.comm_sets.specs.Marks.{any_moved}
use Rattle.covering_rounds.specs.Moved.{is_moved}
use Rattle.comm_sets.proofs.Marking.{any-row, marked-more}
use Rattle.comm_sets.proofs.marks.mark_rows.Goals as goal

pub loop-row-preserved : goal.loop-row-preserved
loop-row-preserved c =
    let old = c.args.before.now in
    let new = c.args.after.now in
    let row = c.loop-row.row in
    let within : row < length (sizes old.layouts) = omega (arith, c.loop-row-test.true, c.rows-row-end.ensures, length-map old.layouts size_of) in
    marked-more (any_moved old.nodes old.layouts new.layouts (spots_from 0 (take (row + 1) (sizes old.layouts)))) c.loop-row.invariant c.in_ok-mark_row.ensures
    (λ from to lt lt'. any-row (is_moved old.nodes old.layouts new.layouts from to) row (sizes old.layouts) within)
