use Rattle.std.proofs.Common.{◌≡◌, drop, map}
use Rattle.std.specs.Prelude.{◌&&◌}
use Rattle.std.specs.List.{flat_map, list_all}
use Rattle.syntax_tree.specs.Directive.{entity}
use Rattle.name_table.specs.RankRules.{typed_expressions}
use Rattle.name_table.proofs.declaration_ranks.in_entities.Given as goal

abbrev pub invariant-loop-one : goal.invariant-loop-one
invariant-loop-one g l =
    (l.all && list_all (g.T.ExpressionTest.passes l.test) (flat_map typed_expressions (map entity (drop l.one-index l.entities))))
    ≡ list_all (g.T.ExpressionTest.passes l.test) (flat_map typed_expressions (map entity l.entities))
