use Rattle.std.proofs.Common.{◌≡◌, ◌++◌, drop, map}
use Rattle.resolved_program.specs.Resolved.{control}
use Rattle.node_codegen.proofs.Bounds.{bounds}
use Rattle.node_codegen.proofs.array_bounds.bounds_of.Given as goal

-- those so far, before those of the dimensions that are left, are all
abbrev pub invariant-loop-d : goal.invariant-loop-d
invariant-loop-d l = map control l.bounds.items ++ map bounds (drop l.d-index l.dims) ≡ map bounds l.dims
