use Rattle.std.proofs.Common.{◌≡◌, map, take}
use Rattle.mappings.specs.Alignment.{composed_entry}
use Rattle.align_map.proofs.composition.compose.Given as goal

abbrev pub invariant-loop-entry : goal.invariant-loop-entry
invariant-loop-entry l = l.dims.items ≡ map (composed_entry l.align) (take l.entry-index l.target.dims)
