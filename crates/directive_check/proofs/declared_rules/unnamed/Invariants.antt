use Rattle.std.proofs.Common.{◌≡◌, [], drop}
use Rattle.expression_rules.specs.Symbols.{is_among}
use Rattle.directive_check.proofs.declared_rules.unnamed.Given as goal

abbrev pub invariant-loop-name : goal.invariant-loop-name
invariant-loop-name l = is_among [] (drop l.name-index l.names) ≡ is_among [] l.names
