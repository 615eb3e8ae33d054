use Rattle.std.proofs.Common.{arith, sym}
use Rattle.term_values.proofs.Runs.{with_run-past, with_run-copied}
use Rattle.term_values.proofs.state.put_run.Goals as goal

pub returns-else-first-numbers : goal.returns-else-first-numbers
returns-else-first-numbers c = sym (with_run-past c.args.numbers.now c.args.first c.args.values.now c.if-first-numbers.false)

pub returns-then-first-numbers : goal.returns-then-first-numbers
returns-then-first-numbers c =
    with_run-copied c.args.numbers.now c.copy_from_slice.new.self c.args.values.now c.args.first c.min-count.result _ c.if-first-numbers.true c.min-count.ensures
    (omega arith) c.copy_from_slice.ensures.after
