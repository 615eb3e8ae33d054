use Rattle.std.proofs.Common.{◌≡◌, drop, map}
use Rattle.std.specs.List.{flat_map}
use Rattle.syntax_tree.specs.Statement.{axis}
use Rattle.statement_walk.specs.Heads.{indexed}
use Rattle.hpf_base.specs.FirstBreach.{earlier, least}
use Rattle.syntax_tree.specs.Statement.{assignments_of}
use Rattle.statement_walk.proofs.statements.walk_indexed.Given as goal

abbrev pub invariant-loop-stmt : goal.invariant-loop-stmt
invariant-loop-stmt g l =
    earlier l.first (least (flat_map (g.J.Judge.breaches l.judge) (indexed l.do_variables (map axis l.axes) (assignments_of (drop l.stmt-index l.stmts)))))
    ≡ least (flat_map (g.J.Judge.breaches l.judge) (indexed l.do_variables (map axis l.axes) (assignments_of l.stmts)))
