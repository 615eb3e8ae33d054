use Rattle.std.proofs.Common.{◌≡◌, drop}
use Rattle.std.specs.Prelude.{◌||◌}
use Rattle.name_table.specs.Uses.{repeats}
use Rattle.alignment_rules.proofs.repetitions.repeats.Given as goal

abbrev pub invariant-loop-name : goal.invariant-loop-name
invariant-loop-name l = (l.place ≡ l.name-index) × ((l.found || repeats (drop l.name-index l.names)) ≡ repeats l.names)
