-- What is found on the paths through parts of a nest is what is found on those through all of it.
use Rattle.std.proofs.Common.{sym, ap, ◌∙◌, true, ◌∷◌}
use Rattle.std.proofs.lemmas.List.{append-nil}
use Rattle.syntax_tree.specs.declared.stmt.Arm.{out-Arm}
use Rattle.syntax_tree.specs.Expression.{expression}
use Rattle.syntax_tree.specs.Statement.{arms_of, block_of, statement, variable}
use Rattle.statement_walk.specs.Head as head
use Rattle.hpf_base.specs.FirstBreach.{least}
use Rattle.expression_rules.proofs.Turns.{first_next}
use Rattle.nest_check.specs.NestRules.{path_breaches_at}
use Rattle.nest_check.specs.Paths.{assigned_after, assigned_by, assigned_by_arms, common, reached, reached_heads, reached_in, reached_in_arms}
use Rattle.nest_check.specs.Gathering.{reached_arm}
use Rattle.nest_check.proofs.PathSteps.{arm_keeps, arm_parts, arm_reached, assigned_next, both_first, common_next, do_reached, first_of, more_first, nothing_after, walk_next}
use Rattle.nest_check.proofs.StatementForms.{if_one, if_with, if_without}
use Rattle.nest_check.proofs.paths.+paths.Goals as goal

pub walk_paths-loop-stmt-preserved : goal.walk_paths-loop-stmt-preserved
walk_paths-loop-stmt-preserved t c =
    let s = c.stmt-item.result in
    let xs = c.loop-stmt.assigned.items in
    let ys = c.walk_statement.new.assigned.items in
    let all = block_of c.args.stmts.now in (
      assigned_next c.args.stmts.now c.loop-stmt.stmt-index s xs ys (assigned_after c.args.assigned.now.items all) c.loop-stmt-test.true c.stmt-item.is
          c.in_ok-found.ensures.after c.loop-stmt.invariant.0,
      walk_next c.args.names.now c.args.conditional c.args.stmts.now c.loop-stmt.stmt-index s c.loop-stmt.first c.in_ok-found.found c.earlier-first.result
          (first_of c.args.names.now (reached_heads c.args.conditional c.args.assigned.now.items all)) xs ys c.loop-stmt-test.true c.stmt-item.is
          c.in_ok-found.ensures.first c.earlier-first.ensures c.in_ok-found.ensures.after c.loop-stmt.invariant.1,
    )

pub walk_arms-loop-arm-preserved : goal.walk_arms-loop-arm-preserved
walk_arms-loop-arm-preserved t c =
    let before = c.args.before.now in (
      common_next before c.args.arms.now c.loop-arm.arm-index c.arm-item.result c.loop-arm.kept.items c.walk_arm.new.kept.items
          (assigned_by_arms before c.args.kept.now.items (arms_of c.args.arms.now)) c.loop-arm-test.true c.arm-item.is c.in_ok-found.ensures.after c.loop-arm.invariant.0,
      first_next (path_breaches_at c.args.names.now) (λ as'. reached_in_arms before (arms_of as')) (reached_arm before) (arm_reached before)
          c.args.arms.now c.loop-arm.arm-index c.arm-item.result c.loop-arm.first c.in_ok-found.found c.earlier-first.result c.loop-arm-test.true c.arm-item.is
          c.in_ok-found.ensures.first c.earlier-first.ensures c.loop-arm.invariant.1,
    )

pub walk_arm-returns-clause-after : goal.walk_arm-returns-clause-after
walk_arm-returns-clause-after t c =
    c.keep_common.ensures
    ∙ ap (common c.args.kept.now.items) (c.deref-2.ensures.value ∙ c.in_ok-inside.ensures.after
    ∙ (λ i. assigned_after (c.in_ok-own.ensures i) (block_of (c.deref.ensures.value i))))
    ∙ sym (arm_keeps c.args.before.now c.args.kept.now.items c.args.arm.now)

pub walk_arm-returns-clause-first : goal.walk_arm-returns-clause-first
walk_arm-returns-clause-first t c =
    let before = c.args.before.now in
    let arm = c.args.arm.now in
    more_first c.args.names.now (reached true before (out-Arm arm).line (head.Condition (expression (out-Arm arm).cond)))
    (reached_heads true before (block_of (out-Arm arm).body.items)) (reached_arm before arm) c.in_condition-tested.result c.in_ok-inside.inside c.earlier.result
    c.in_condition-tested.ensures
    (c.in_ok-inside.ensures.first ∙ (λ i. first_of c.args.names.now (reached_heads true (c.in_ok-own.ensures i) (block_of (c.deref.ensures.value i)))))
    c.earlier.ensures (sym (arm_parts before arm))

pub walk_do-returns : goal.walk_do-returns
walk_do-returns t c =
    do_reached c.args.conditional c.args.assigned.now c.args.line c.args.inner.now c.in_axis-found.result c.in_ok-inside.inside c.earlier.result c.args.names.now
    c.in_axis-found.ensures
    (c.in_ok-inside.ensures.first ∙ (λ i. first_of c.args.names.now (reached_heads c.args.conditional (c.in_ok-own.ensures i) (block_of (c.deref.ensures.value i)))))
    c.earlier.ensures

pub walk_statement-returns-in-Assign-clause-first : goal.walk_statement-returns-in-Assign-clause-first
walk_statement-returns-in-Assign-clause-first t c =
    let n = c.args.names.now in
    let line = c.args.stmt.now.line in
    let xs = c.args.assigned.now.items in
    let own = head.Assignment (variable c.in-Assign.left) (expression c.in-Assign.right) in
    c.in_assignment-found.ensures
    ∙ ap (λ xs. least (path_breaches_at n (reached c.args.conditional xs line own))) c.deref.ensures.value
    ∙ ap least (sym (append-nil (path_breaches_at n (reached c.args.conditional xs line own))))
    ∙ sym (ap (λ k. first_of n (reached_in c.args.conditional xs line (statement line k))) c.in-Assign.is)

pub walk_statement-returns-in-IfOne-clause-first : goal.walk_statement-returns-in-IfOne-clause-first
walk_statement-returns-in-IfOne-clause-first t c =
    let n = c.args.names.now in
    let line = c.args.stmt.now.line in
    let xs = c.args.assigned.now.items in
    let s = c.deref-in-IfOne-3.result.now in
    let own = reached true xs line (head.Condition (expression c.in-IfOne.cond)) in
    let inside = reached_in true xs s.line (statement s.line s.what) in
    let before = c.in_ok-own-in-IfOne.ensures ∙ c.deref-in-IfOne-2.ensures.value in
    more_first n own inside (reached_in c.args.conditional xs line (statement line c.args.stmt.now.what)) c.in_condition-tested.result c.in_ok-inside-in-IfOne.inside
    c.earlier.result
    (c.in_condition-tested.ensures ∙ ap (λ xs. least (path_breaches_at n (reached true xs line (head.Condition (expression c.in-IfOne.cond))))) c.deref-in-IfOne.ensures.value)
    (c.in_ok-inside-in-IfOne.ensures.first ∙ ap (λ xs. first_of n (reached_in true xs s.line (statement s.line s.what))) before)
    c.earlier.ensures
    (sym (ap (reached_in c.args.conditional xs line) (if_one line c.args.stmt.now.what c.in-IfOne.cond c.in-IfOne.body s c.in-IfOne.is c.deref-in-IfOne-3.ensures)
    ∙ ap (λ l. own ∷ l) (nothing_after inside)))

pub walk_statement-returns-in-None-clause-after : goal.walk_statement-returns-in-None-clause-after
walk_statement-returns-in-None-clause-after t c =
    let xs = c.args.assigned.now.items in
    let before = c.deref-in-None.ensures.value ∙ c.in_ok-before-in-If.ensures ∙ c.deref-in-If.ensures.value in
    c.in_ok-first-in-None.ensures.after
    ∙ (λ i. assigned_by_arms (before i) xs (arms_of (c.deref-in-None-2.ensures.value i)))
    ∙ sym (ap (assigned_by xs) (if_without c.args.stmt.now.line c.args.stmt.now.what c.in-If.arms c.in-If.rest c.in-If.glued c.in-If.is c.in-None.is))

pub walk_statement-returns-in-None-clause-first : goal.walk_statement-returns-in-None-clause-first
walk_statement-returns-in-None-clause-first t c =
    let n = c.args.names.now in
    let line = c.args.stmt.now.line in
    let xs = c.args.assigned.now.items in
    let before = c.deref-in-None.ensures.value ∙ c.in_ok-before-in-If.ensures ∙ c.deref-in-If.ensures.value in
    c.in_ok-first-in-None.ensures.first
    ∙ (λ i. first_of n (reached_in_arms (before i) (arms_of (c.deref-in-None-2.ensures.value i))))
    ∙ ap (first_of n) (sym (append-nil (reached_in_arms xs (arms_of c.in-If.arms.items))))
    ∙ sym (ap (λ s. first_of n (reached_in c.args.conditional xs line s))
    (if_without line c.args.stmt.now.what c.in-If.arms c.in-If.rest c.in-If.glued c.in-If.is c.in-None.is))

pub walk_statement-returns-in-If-clause-after : goal.walk_statement-returns-in-If-clause-after
walk_statement-returns-in-If-clause-after t c =
    let xs = c.args.assigned.now.items in
    let before = c.deref-in-Some-2.ensures.value ∙ c.in_ok-before-in-If.ensures ∙ c.deref-in-If.ensures.value in
    let later = c.in_ok-last-in-Some.ensures.after ∙ ap (λ ss. assigned_after xs (block_of ss)) c.deref-in-Some.ensures.value in
    c.in_ok-first-in-Some.ensures.after
    ∙ (λ i. assigned_by_arms (before i) (later i) (arms_of (c.deref-in-Some-3.ensures.value i)))
    ∙ sym (ap (assigned_by xs)
    (if_with c.args.stmt.now.line c.args.stmt.now.what c.in-If.arms c.in-If.rest c.in-Some.stmts c.in-If.glued c.in-If.is c.in-Some.is))

pub walk_statement-returns-in-If-clause-first : goal.walk_statement-returns-in-If-clause-first
walk_statement-returns-in-If-clause-first t c =
    let n = c.args.names.now in
    let line = c.args.stmt.now.line in
    let xs = c.args.assigned.now.items in
    let before = c.deref-in-Some-2.ensures.value ∙ c.in_ok-before-in-If.ensures ∙ c.deref-in-If.ensures.value in
    both_first n (reached_in_arms xs (arms_of c.in-If.arms.items)) (reached_heads true xs (block_of c.in-Some.stmts.items))
    (reached_in c.args.conditional xs line (statement line c.args.stmt.now.what)) c.in_ok-first-in-Some.first c.in_ok-last-in-Some.last c.earlier-in-Some.result
    (c.in_ok-first-in-Some.ensures.first ∙ (λ i. first_of n (reached_in_arms (before i) (arms_of (c.deref-in-Some-3.ensures.value i)))))
    (c.in_ok-last-in-Some.ensures.first ∙ ap (λ ss. first_of n (reached_heads true xs (block_of ss))) c.deref-in-Some.ensures.value)
    c.earlier-in-Some.ensures
    (sym (ap (reached_in c.args.conditional xs line)
    (if_with line c.args.stmt.now.what c.in-If.arms c.in-If.rest c.in-Some.stmts c.in-If.glued c.in-If.is c.in-Some.is)))
