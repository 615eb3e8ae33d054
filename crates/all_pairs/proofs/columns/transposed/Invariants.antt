use Rattle.std.proofs.Common.{◌≡◌, length, replicate, []}
use Rattle.all_pairs.specs.RowSteps.{transposed}
use Rattle.all_pairs.proofs.columns.transposed.Given as goal

abbrev pub invariant-loop-row : goal.invariant-loop-row
invariant-loop-row l = (l.columns.items ≡ transposed (replicate (length l.fn.rows.items) []) l.yielded) × (length l.columns.items ≡ length l.fn.rows.items)
