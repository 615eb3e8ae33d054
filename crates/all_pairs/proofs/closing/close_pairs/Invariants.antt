use Rattle.std.proofs.Common.{◌≡◌, ◌++◌, [], map, length, replicate}
use Rattle.all_pairs.specs.Rows.{out_queue, in_queue}
use Rattle.all_pairs.specs.RowSteps.{row_joined, IsRowPassed, transposed}
use Rattle.all_pairs.proofs.Walks.{IsWalk}
use Rattle.all_pairs.proofs.closing.close_pairs.Given as goal

abbrev pub invariant-loop-out : goal.invariant-loop-out
invariant-loop-out g l = IsWalk (map out_queue) (map in_queue) row_joined IsRowPassed [] (transposed (replicate (length l.fn.ins.items) []) l.fn.ins.items) l.yielded
    l.out-iterator.rest.items l.ins.rest.items l.closed.items × (l.fn.outs.items ≡ l.yielded ++ l.out-iterator.rest.items)
