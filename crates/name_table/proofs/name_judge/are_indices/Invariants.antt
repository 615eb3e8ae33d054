use Rattle.std.proofs.Common.{◌≡◌, drop, map}
use Rattle.std.specs.Prelude.{◌&&◌}
use Rattle.std.specs.List.{list_all}
use Rattle.syntax_tree.specs.Statement.{axis}
use Rattle.expression_rules.specs.Symbols.{find, is_scalar, satisfies}
use Rattle.statement_walk.specs.Heads.{indices_of}
use Rattle.name_table.proofs.name_judge.are_indices.Given as goal

abbrev pub invariant-loop-other : goal.invariant-loop-other
invariant-loop-other l = (l.all && list_all (λ x. satisfies is_scalar (find x l.table)) (indices_of (map axis (drop l.other-index l.axes))))
    ≡ list_all (λ x. satisfies is_scalar (find x l.table)) (indices_of (map axis l.axes))
