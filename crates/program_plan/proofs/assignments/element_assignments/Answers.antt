use Rattle.std.proofs.Common.{List, ◌+◌, drop, map, arith, refl, sym}
use Rattle.std.proofs.lemmas.Grind.{flat_map-append}
use Rattle.expression_rules.proofs.Lists.{drop_item}
use Rattle.syntax_tree.specs.declared.stmt.Stmt.{Stmt}
use Rattle.syntax_tree.specs.Statement.{assignments_in, assignments_of}
use Rattle.array_meaning.specs.Resolution.{element_assignments}
use Rattle.resolved_program.specs.Resolved.{element_assignment}
use Rattle.resolved_program.proofs.Made.{joined_all, joined_next}
use Rattle.program_plan.proofs.assignments.element_assignments.Goals as goal

pub loop-stmt-preserved : goal.loop-stmt-preserved
loop-stmt-preserved c =
    let all = λ (l : List Stmt). element_assignments c.args.names.now c.args.indices.now (assignments_of l) in
    let n = c.loop-stmt.stmt-index in
    joined_next all c.args.stmts.now n c.stmt-item.result (map element_assignment c.loop-stmt.assignments.items) _ _ (all c.args.stmts.now)
    (drop_item c.args.stmts.now n c.stmt-item.result c.loop-stmt-test.true c.stmt-item.is) c.in_ok-add_element_assignment.ensures
    (sym (flat_map-append _ (assignments_in c.stmt-item.result.line c.stmt-item.result.what) (assignments_of (drop (n + 1) c.args.stmts.now)))) c.loop-stmt.invariant

pub returns : goal.returns
returns c =
    joined_all (λ (l : List Stmt). element_assignments c.args.names.now c.args.indices.now (assignments_of l)) c.args.stmts.now c.loop-stmt.stmt-index (map element_assignment c.loop-stmt.assignments.items) _
    (omega arith) refl c.loop-stmt.invariant
