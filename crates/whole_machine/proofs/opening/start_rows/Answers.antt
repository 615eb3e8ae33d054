use Rattle.std.proofs.Common.{◌≡◌, get_or, replicate, slice_index_or, pos, rules}
use Rattle.machine_steps.specs.Layout.{sizes}
use Rattle.whole_machine.proofs.StartRows.{start_rows-all, start_rows-more}
use Rattle.whole_machine.proofs.opening.start_rows.Goals as goal

pub loop-row-preserved : goal.loop-row-preserved
loop-row-preserved c =
    let same : c.in_ok-of_one.field-0 ≡ replicate (slice_index_or (sizes c.args.owners.now.layouts) c.loop-row.row 0) (get_or c.args.starts.now c.loop-row.row (pos 0)) = search rules in
    start_rows-more c.args.owners.now.layouts c.args.starts.now c.loop-row.row (pos 0) _ _ _ c.requires c.loop-row-test.true c.in_ok-push.ensures.items same c.loop-row.invariant

pub returns : goal.returns
returns c = start_rows-all c.args.owners.now.layouts c.args.starts.now c.loop-row.row _ c.requires c.loop-row-test.false c.loop-row.invariant
