use Rattle.syntax_tree.specs.Expression.{expression}
use Rattle.statement_walk.specs.Heads.{masked}
use Rattle.syntax_tree.specs.Statement.{assignments_in, assignments_of}
use Rattle.expression_rules.proofs.Turns.{first_next}
use Rattle.statement_walk.proofs.WalkSteps.{masked_step}
use Rattle.statement_walk.proofs.statements.walk_masked.Goals as goal

pub loop-stmt-preserved : goal.loop-stmt-preserved
loop-stmt-preserved g c =
    let run = c.args.do_variables.now in
    let mask = expression c.args.mask.now in
    first_next (g.J.Judge.breaches c.args.judge.now) (λ ss. masked run mask (assignments_of ss)) (λ s. masked run mask (assignments_in s.line s.what))
    (λ s ss. masked_step run mask s ss)
    c.args.stmts.now c.loop-stmt.stmt-index c.stmt-item.result c.loop-stmt.first c.in_ok-found.found c.earlier-first.result c.loop-stmt-test.true c.stmt-item.is
    c.in_ok-found.ensures c.earlier-first.ensures c.loop-stmt.invariant
