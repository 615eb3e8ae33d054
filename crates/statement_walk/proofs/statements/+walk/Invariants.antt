use Rattle.std.proofs.Common.{◌≡◌, drop}
use Rattle.std.specs.List.{flat_map}
use Rattle.syntax_tree.specs.Statement.{block_of}
use Rattle.statement_walk.specs.Heads.{arm_heads, heads}
use Rattle.hpf_base.specs.FirstBreach.{earlier, least}
use Rattle.syntax_tree.specs.Statement.{arms_of}
use Rattle.statement_walk.proofs.statements.+walk.Given as goal

-- the first of what is wrong so far, or else of what is wrong in the rest, is the first of all
abbrev pub invariant-walk-loop-stmt : goal.invariant-walk-loop-stmt
invariant-walk-loop-stmt g l =
    (l.do_variables.items ≡ l.fn.do_variables.items)
    × (earlier l.first (least (flat_map (g.J.Judge.breaches l.judge) (heads l.fn.do_variables.items (block_of (drop l.stmt-index l.stmts)))))
    ≡ least (flat_map (g.J.Judge.breaches l.judge) (heads l.fn.do_variables.items (block_of l.stmts))))

abbrev pub invariant-walk_arms-loop-arm : goal.invariant-walk_arms-loop-arm
invariant-walk_arms-loop-arm g l =
    (l.do_variables.items ≡ l.fn.do_variables.items)
    × (earlier l.first (least (flat_map (g.J.Judge.breaches l.judge) (arm_heads l.fn.do_variables.items (arms_of (drop l.arm-index l.arms)))))
    ≡ least (flat_map (g.J.Judge.breaches l.judge) (arm_heads l.fn.do_variables.items (arms_of l.arms))))
