use Rattle.std.proofs.Common.{All}
use Rattle.expression_rules.specs.Dims.{IsDim}
use Rattle.pair_messages.proofs.rows.dims_each.Given as goal

abbrev pub invariant-loop-k : goal.invariant-loop-k
invariant-loop-k l = All IsDim l.dims.items
