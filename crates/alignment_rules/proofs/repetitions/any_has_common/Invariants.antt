use Rattle.std.proofs.Common.{◌≡◌, drop}
use Rattle.std.specs.Prelude.{◌||◌}
use Rattle.std.specs.List.{list_any}
use Rattle.linear_subscripts.specs.LinearForms.{have_common}
use Rattle.alignment_rules.proofs.repetitions.any_has_common.Given as goal

abbrev pub invariant-loop-list : goal.invariant-loop-list
invariant-loop-list l = (l.found || list_any (have_common l.names) (drop l.list-index l.lists)) ≡ list_any (have_common l.names) l.lists
