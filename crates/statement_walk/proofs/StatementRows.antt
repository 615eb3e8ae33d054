-- An arm of an IF, by its fields.
use Rattle.std.proofs.Common.{◌≡◌, List, ◌∷◌, ap, ◌∙◌}
use Rattle.syntax_tree.specs.declared.stmt.Arm.{Arm, out-Arm}
use Rattle.syntax_tree.specs.declared.stmt.StatementKind.TheViews.{is-struct-Arm}
use Rattle.syntax_tree.specs.Expression.{expression}
use Rattle.syntax_tree.specs.Statement.{block_of}
use Rattle.syntax_tree.proofs.Rows.{block_vec}
use Rattle.expression_rules.specs.Symbols.{Name}
use Rattle.statement_walk.specs.Heads.{placed, heads}
use Rattle.statement_walk.specs.Head as head
use Rattle.statement_walk.specs.Views.{arm_alone}

pub arm_parts : (do_variables : List Name) (a : Arm) → arm_alone do_variables a ≡ placed do_variables (out-Arm a).line (head.Condition (expression (out-Arm a).cond))
    ∷ heads do_variables (block_of (out-Arm a).body.items)
arm_parts do_variables a =
    ap (arm_alone do_variables) (is-struct-Arm a)
    ∙ ap (λ b. placed do_variables (out-Arm a).line (head.Condition (expression (out-Arm a).cond)) ∷ heads do_variables b) (block_vec (out-Arm a).body)
