use Rattle.std.proofs.Common.{◌≡◌, ◌++◌, List, drop}
use Rattle.syntax_tree.specs.Statement.{arms_of, block_of}
use Rattle.expression_rules.specs.Symbols.{Name}
use Rattle.statement_walk.specs.Heads.{arm_heads, heads}
use Rattle.directive_check.specs.Redistributes.{redistributes, said}
use Rattle.directive_check.proofs.redistributes.+redistributes.Given as goal

abbrev pub invariant-push_all-loop-stmt : goal.invariant-push_all-loop-stmt
invariant-push_all-loop-stmt l =
    (xs : List Name) → said l.found.items ++ redistributes (heads xs (block_of (drop l.stmt-index l.stmts)))
    ≡ said l.fn.found.items ++ redistributes (heads xs (block_of l.stmts))

abbrev pub invariant-push_arms-loop-arm : goal.invariant-push_arms-loop-arm
invariant-push_arms-loop-arm l =
    (xs : List Name) → said l.found.items ++ redistributes (arm_heads xs (arms_of (drop l.arm-index l.arms)))
    ≡ said l.fn.found.items ++ redistributes (arm_heads xs (arms_of l.arms))
