use Rattle.std.proofs.Common.{◌≡◌, ◌++◌, drop}
use Rattle.mappings.proofs.mapping.MapDims.copy.Given as goal

abbrev pub invariant-loop-entry : goal.invariant-loop-entry
invariant-loop-entry l = l.entries.items ++ drop l.entry-index l.self ≡ l.self
