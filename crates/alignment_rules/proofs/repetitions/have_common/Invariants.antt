use Rattle.std.proofs.Common.{◌≡◌, drop}
use Rattle.std.specs.Prelude.{◌||◌}
use Rattle.linear_subscripts.specs.LinearForms.{have_common}
use Rattle.alignment_rules.proofs.repetitions.have_common.Given as goal

abbrev pub invariant-loop-name : goal.invariant-loop-name
invariant-loop-name l = (l.found || have_common (drop l.name-index l.names) l.others) ≡ have_common l.names l.others
