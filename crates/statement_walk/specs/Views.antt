-- Of a promise.
-- What contracts see of the statements of a tree, as a walk meets them. Of public clauses only that of `Judge` cites this file, for
-- `head_of`.
use Rattle.std.specs.Prelude.{List, [], ◌∷◌, map, Option, Some, None, option_map, Vec}
use Rattle.std.specs.declared.alloc.Global.{Global}
use Rattle.syntax_tree.specs.declared.stmt.Stmt.{Stmt}
use Rattle.syntax_tree.specs.declared.stmt.Arm.{Arm}
use Rattle.syntax_tree.specs.declared.stmt.StatementKind.TheBlock.{struct-Arm}
use Rattle.syntax_tree.specs.Expression.{expression}
use Rattle.syntax_tree.specs.Directive.{distribution}
use Rattle.syntax_tree.specs.Statement.{Assignment, assignments_of, axis, block, independent, item_of, variable}
use Rattle.expression_rules.specs.Symbols.{Name}
use Rattle.statement_walk.specs.declared.statements.Head.{Head as HeldHead}
use Rattle.statement_walk.specs.declared.statements.Head.TheVariants as held
use Rattle.statement_walk.specs.Head.{Head}
use Rattle.statement_walk.specs.Head as head
use Rattle.statement_walk.specs.Heads.{PlacedHead, placed, heads}

abbrev pub head_of : HeldHead → Head
head_of (held.Assignment left right) = head.Assignment (variable left.now) (expression right.now)
head_of (held.MaskedAssignment mask left right) = head.MaskedAssignment (expression mask.now) (variable left.now) (expression right.now)
head_of (held.ForallAssignment axes left right) = head.ForallAssignment (map axis axes.now) (variable left.now) (expression right.now)
head_of (held.Condition cond) = head.Condition (expression cond.now)
head_of (held.Independent mark) = head.Independent (independent mark.now)
head_of (held.Do mark index first last step) =
    head.Do (option_map independent mark.now) (record { index = index.now; first = expression first.now; last = expression last.now; step = option_map expression step.now })
head_of (held.Where mask) = head.Where (expression mask.now)
head_of (held.Forall axes mask) = head.Forall (map axis axes.now) (option_map expression mask.now)
head_of (held.Print items) = head.Print (map item_of items.now)
head_of held.Transfer = head.Transfer
head_of (held.Redistribute d) = head.Redistribute (distribution d.now)

-- what stands in one arm of an IF
abbrev pub arm_alone : List Name → Arm → List PlacedHead
arm_alone xs (struct-Arm n cond shape row glued) = placed xs n (head.Condition (expression cond)) ∷ heads xs (block row)

-- the assignments after an ELSEWHERE that may be there
abbrev pub elsewhere_of : Option (Vec Stmt Global) → List Assignment
elsewhere_of None = []
elsewhere_of (Some v) = assignments_of v.items
