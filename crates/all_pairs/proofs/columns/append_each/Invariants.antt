use Rattle.std.proofs.Common.{◌≡◌, ◌++◌, length}
use Rattle.all_pairs.specs.RowSteps.{each_appended}
use Rattle.all_pairs.proofs.columns.append_each.Given as goal

abbrev pub invariant-loop-end : goal.invariant-loop-end
invariant-loop-end l = (l.columns.items ≡ each_appended l.fn.columns.items l.yielded) × (l.place ≡ length l.yielded) × (l.fn.row ≡ l.yielded ++ l.end-iterator.rest.items)
