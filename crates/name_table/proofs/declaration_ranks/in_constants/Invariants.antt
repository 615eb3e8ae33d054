use Rattle.std.proofs.Common.{◌≡◌, drop, map}
use Rattle.std.specs.Prelude.{◌&&◌}
use Rattle.std.specs.List.{list_all}
use Rattle.syntax_tree.specs.MainProgram.{named_constant}
use Rattle.name_table.proofs.declaration_ranks.in_constants.Given as goal

abbrev pub invariant-loop-constant : goal.invariant-loop-constant
invariant-loop-constant g l =
    (l.all && list_all (g.T.ExpressionTest.passes l.test) (map (λ c. c.value) (map named_constant (drop l.constant-index l.constants))))
    ≡ list_all (g.T.ExpressionTest.passes l.test) (map (λ c. c.value) (map named_constant l.constants))
