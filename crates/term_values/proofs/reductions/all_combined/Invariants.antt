use Rattle.std.proofs.Common.{◌≡◌, take, fold}
use Rattle.op_tables.specs.Joins.{unit}
use Rattle.op_tables.specs.Reductions.{combined}
use Rattle.term_values.proofs.reductions.all_combined.Given as goal

abbrev pub invariant-loop-v : goal.invariant-loop-v
invariant-loop-v l = l.so_far.value ≡ fold (combined l.reduction) (unit l.reduction.join) (take l.v-index l.elements)
