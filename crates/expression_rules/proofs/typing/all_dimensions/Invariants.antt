use Rattle.std.proofs.Common.{◌≡◌, drop}
use Rattle.std.specs.Prelude.{◌&&◌}
use Rattle.std.specs.List.{list_all}
use Rattle.expression_rules.specs.Types.{is_dimension}
use Rattle.expression_rules.proofs.typing.all_dimensions.Given as goal

abbrev pub invariant-loop-number : goal.invariant-loop-number
invariant-loop-number l = (l.all && list_all (is_dimension l.rank) (drop l.number-index l.numbers)) ≡ list_all (is_dimension l.rank) l.numbers
