use Rattle.std.proofs.Common.{arith, sym}
use Rattle.owner_tables.proofs.LineLaws.{with_line-past, with_line-run}
use Rattle.owner_tables.proofs.row.put_run.Goals as goal

pub returns-else-at-row : goal.returns-else-at-row
returns-else-at-row c = sym (with_line-past c.args.row.now c.args.at 1 c.args.values.now c.if-at-row.false)

pub returns-then-at-row : goal.returns-then-at-row
returns-then-at-row c =
    with_line-run c.args.row.now c.copy_from_slice.new.self c.args.values.now c.args.at c.min-count.result _ c.if-at-row.true c.min-count.ensures
    (omega arith) c.copy_from_slice.ensures.after
