use Rattle.std.proofs.Common.{◌≡◌, drop}
use Rattle.std.specs.List.{flat_map}
use Rattle.syntax_tree.specs.Expression.{expression}
use Rattle.statement_walk.specs.Heads.{masked}
use Rattle.hpf_base.specs.FirstBreach.{earlier, least}
use Rattle.syntax_tree.specs.Statement.{assignments_of}
use Rattle.statement_walk.proofs.statements.walk_masked.Given as goal

abbrev pub invariant-loop-stmt : goal.invariant-loop-stmt
invariant-loop-stmt g l =
    earlier l.first (least (flat_map (g.J.Judge.breaches l.judge) (masked l.do_variables (expression l.mask) (assignments_of (drop l.stmt-index l.stmts)))))
    ≡ least (flat_map (g.J.Judge.breaches l.judge) (masked l.do_variables (expression l.mask) (assignments_of l.stmts)))
