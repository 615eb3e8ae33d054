use Rattle.std.proofs.Common.{◌≡◌, map, take}
use Rattle.expression_rules.specs.Dims.{extent}
use Rattle.pair_messages.proofs.rows.extents_each.Given as goal

abbrev pub invariant-loop-dim : goal.invariant-loop-dim
invariant-loop-dim l = l.extents.items ≡ map extent (take l.dim-index l.dims)
