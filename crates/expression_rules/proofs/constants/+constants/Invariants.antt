use Rattle.std.proofs.Common.{◌≡◌, drop, option_copied}
use Rattle.expression_rules.specs.Constants.{values}
use Rattle.expression_rules.specs.Partial.{and_all}
use Rattle.syntax_tree.specs.Expression.{arguments_of}
use Rattle.expression_rules.proofs.constants.+constants.Given as goal

-- what is found so far, with what is still to find, is all
abbrev pub invariant-values-loop-e : goal.invariant-values-loop-e
invariant-values-loop-e l =
    and_all l.found (values (option_copied l.grid) l.scope (arguments_of (drop l.e-index l.expressions))) ≡ values (option_copied l.grid) l.scope (arguments_of l.expressions)
