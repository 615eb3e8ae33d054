use Rattle.std.proofs.Common.{◌≡◌, ◌++◌}
use Rattle.all_pairs.specs.Rows.{out_queue, in_queue, IsPassed}
use Rattle.all_pairs.specs.RowSteps.{one_joined}
use Rattle.all_pairs.proofs.Walks.{IsWalk}
use Rattle.all_pairs.proofs.closing.close_row.Given as goal

abbrev pub invariant-loop-out : goal.invariant-loop-out
invariant-loop-out g l = IsWalk out_queue in_queue one_joined IsPassed l.fn.closed.items l.fn.ins l.yielded l.out-iterator.rest.items l.ins.rest.items l.closed.items
    × (l.fn.outs ≡ l.yielded ++ l.out-iterator.rest.items)
