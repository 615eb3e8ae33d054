use Rattle.std.proofs.Common.{◌≡◌, drop}
use Rattle.std.specs.Prelude.{◌||◌}
use Rattle.alignment_rules.specs.AlignmentRules.{overlap}
use Rattle.alignment_rules.proofs.repetitions.overlap.Given as goal

abbrev pub invariant-loop-list : goal.invariant-loop-list
invariant-loop-list l = (l.place ≡ l.list-index) × ((l.found || overlap (drop l.list-index l.lists)) ≡ overlap l.lists)
