use Rattle.std.proofs.Common.{◌≡◌, ◌++◌, drop, map}
use Rattle.mappings.specs.Alignment.{composed_entry}
use Rattle.directive_check.proofs.direct_mappings.composed.Given as goal

abbrev pub invariant-loop-entry : goal.invariant-loop-entry
invariant-loop-entry l = l.dims.items ++ map (composed_entry l.align) (drop l.entry-index l.target.dims) ≡ map (composed_entry l.align) l.target.dims
