use Rattle.std.proofs.Common.{◌≡◌, ◌++◌, drop, map}
use Rattle.expression_rules.specs.Dims.{extent}
use Rattle.node_codegen.proofs.transformations.extents.Given as goal

-- those so far, before those of the dimensions that are left, are all
abbrev pub invariant-loop-d : goal.invariant-loop-d
invariant-loop-d l = l.ns.items ++ map extent (drop l.d-index l.dims) ≡ map extent l.dims
