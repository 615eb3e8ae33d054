use Rattle.std.proofs.Common.{◌≡◌, ◌+◌, List, [], IfOk, drop, map, arith, sym, ap, ◌∙◌, subst}
use Rattle.std.specs.Prelude.{option_map}
use Rattle.expression_rules.proofs.Lists.{drop_item}
use Rattle.syntax_tree.specs.declared.stmt.Arm.{Arm as HeldArm, out-Arm}
use Rattle.syntax_tree.specs.declared.stmt.Stmt.{Stmt}
use Rattle.syntax_tree.specs.Expression.{expression}
use Rattle.syntax_tree.specs.Statement as syntax
use Rattle.array_meaning.specs.Statements.{Arm, Done, If, Then, Where}
use Rattle.array_meaning.specs.Resolution.{resolved, resolved_arms, resolved_block, section_assignments, term_of, with_inner_unmarked}
use Rattle.resolved_program.specs.Resolved as plan
use Rattle.resolved_program.specs.Resolved.{block_of, statement, with_arm}
use Rattle.program_plan.proofs.StatementForms.{forall_is, if_alone, if_else, other_count, resolved_arm, where_alone, where_else}
use Rattle.resolved_program.proofs.Made.{arms_made, block_made, made_all, made_next}
use Rattle.program_plan.proofs.NestLaws.{from_parts, marked_body, plain_body, with_own}
use Rattle.program_plan.proofs.NoLoops.{no_loop}
use Rattle.resolved_program.proofs.Rows.{arm_made, do_vec, if_vec}
use Rattle.program_plan.proofs.blocks.+block.Goals as goal

pub block-loop-stmt-preserved : goal.block-loop-stmt-preserved
block-loop-stmt-preserved t c =
    let all = λ (l : List Stmt). resolved_block c.args.names.now (syntax.block_of l) in
    let n = c.loop-stmt.stmt-index in
    made_next (λ s. Then s.line (statement s.what)) all c.args.stmts.now n c.stmt-item.result c.loop-stmt.statements.items c.push.new.self.items _ (all c.args.stmts.now)
    (drop_item c.args.stmts.now n c.stmt-item.result c.loop-stmt-test.true c.stmt-item.is) c.in_ok-push.ensures.items
    (ap (λ s. Then c.stmt-item.result.line s (all (drop (n + 1) c.args.stmts.now))) c.in_ok-what.ensures) c.loop-stmt.invariant

pub block-returns : goal.block-returns
block-returns t c =
    sym (block_made c.loop-stmt.statements.items)
    ∙ made_all (λ s. Then s.line (statement s.what)) (λ l. resolved_block c.args.names.now (syntax.block_of l)) c.args.stmts.now c.loop-stmt.stmt-index c.loop-stmt.statements.items _
    (omega arith) c.loop-stmt.invariant

pub action-returns-in-None : goal.action-returns-in-None
action-returns-in-None t c =
    if_vec c.in_ok-arms-in-If.arms c.new.result
    ∙ (λ i. If (c.in_ok-arms-in-If.ensures i) (block_of (c.new.ensures.items i)))
    ∙ ap (λ l. If (resolved_arms c.args.names.now (syntax.arms_of l)) Done) c.deref-in-If.ensures.value
    ∙ if_alone c.args.names.now c.args.stmt.now.line c.args.stmt.now.what c.in-If.arms c.in-If.rest c.in-If.glued c.in-If.is c.in-None.is

pub action-returns-in_ok-block-in-Some : goal.action-returns-in_ok-block-in-Some
action-returns-in_ok-block-in-Some t c =
    if_vec c.in_ok-arms-in-If.arms c.in_ok-block-in-Some.field-0
    ∙ (λ i. If (c.in_ok-arms-in-If.ensures i) (c.in_ok-block-in-Some.ensures i))
    ∙ (λ i. If (resolved_arms c.args.names.now (syntax.arms_of (c.deref-in-If.ensures.value i))) (resolved_block c.args.names.now (syntax.block_of (c.deref-in-Some.ensures.value i))))
    ∙ if_else c.args.names.now c.args.stmt.now.line c.args.stmt.now.what c.in-If.arms c.in-If.rest c.in-Some.stmts c.in-If.glued c.in-If.is c.in-Some.is

pub action-returns-in_ok-nest-in-Do : goal.action-returns-in_ok-nest-in-Do
action-returns-in_ok-nest-in-Do t c =
    subst (λ w. IfOk c.loop_with.result (λ a. statement a ≡ w))
    (with_own c.args.names.now c.in-Do.inner c.in_ok-nest-in-Do.nest c.in_ok-nest-in-Do.ensures
    ∙ ap (λ k. resolved c.args.names.now (syntax.statement c.args.stmt.now.line k)) (sym c.in-Do.is))
    c.loop_with.ensures

pub action-returns-in-None-rest : goal.action-returns-in-None-rest
action-returns-in-None-rest t c =
    let names = c.args.names.now in
    subst (λ w. IfOk c.where_alone.result (λ a. statement a ≡ w))
    (ap (λ l. Where (term_of names [] (expression c.in-Where.mask)) (section_assignments names (syntax.assignments_of l)) []) c.deref-in-None-rest.ensures.value
    ∙ where_alone names c.args.stmt.now.line c.args.stmt.now.what c.in-Where.mask c.in-Where.body c.in-Where.rest c.in-Where.one c.in-Where.glued c.in-Where.is c.in-None-rest.is)
    c.where_alone.ensures

pub action-returns-in-Some-rest : goal.action-returns-in-Some-rest
action-returns-in-Some-rest t c =
    let names = c.args.names.now in
    subst (λ w. IfOk c.where_else.result (λ a. statement a ≡ w))
    ((λ i. Where (term_of names [] (expression c.in-Where.mask)) (section_assignments names (syntax.assignments_of (c.deref-in-Some-rest.ensures.value i))) (section_assignments names (syntax.assignments_of (c.deref-in-Some-rest-2.ensures.value i))))
    ∙ where_else names c.args.stmt.now.line c.args.stmt.now.what c.in-Where.mask c.in-Where.body c.in-Where.rest c.in-Some-rest.others c.in-Where.one c.in-Where.glued c.in-Where.is c.in-Some-rest.is)
    c.where_else.ensures

pub action-returns-in-Forall : goal.action-returns-in-Forall
action-returns-in-Forall t c =
    let names = c.args.names.now in
    subst (λ w. IfOk c.forall.result (λ a. statement a ≡ w))
    ((λ i. resolved names (syntax.Forall (map syntax.axis (c.deref-in-Forall.ensures.value i)) (option_map expression c.in-Forall.mask) (syntax.assignments_of (c.deref-in-Forall-2.ensures.value i))))
    ∙ forall_is names c.args.stmt.now.line c.args.stmt.now.what c.in-Forall.axes c.in-Forall.mask c.in-Forall.body c.in-Forall.one c.in-Forall.glued c.in-Forall.marked c.in-Forall.is)
    c.forall.ensures

pub arms_of-loop-arm-preserved : goal.arms_of-loop-arm-preserved
arms_of-loop-arm-preserved t c =
    let all = λ (l : List HeldArm). resolved_arms c.args.names.now (syntax.arms_of l) in
    let n = c.loop-arm.arm-index in
    let line = (out-Arm c.arm-item.result).line in
    let rest = all (drop (n + 1) c.args.arms.now) in
    made_next with_arm all c.args.arms.now n c.arm-item.result c.loop-arm.planned.items c.push.new.self.items _ (all c.args.arms.now)
    (drop_item c.args.arms.now n c.arm-item.result c.loop-arm-test.true c.arm-item.is) c.in_ok-push.ensures.items
    (arm_made line c.in_ok-condition.condition c.in_ok-body.body rest
    ∙ (λ i. Arm line (c.in_ok-condition.ensures i) (c.in_ok-body.ensures i) rest)
    ∙ ap (λ l. Arm line (term_of c.args.names.now [] (expression (out-Arm c.arm-item.result).cond)) (resolved_block c.args.names.now (syntax.block_of l)) rest) c.deref.ensures.value
    ∙ sym (resolved_arm c.args.names.now c.arm-item.result (drop (n + 1) c.args.arms.now)))
    c.loop-arm.invariant

pub arms_of-returns : goal.arms_of-returns
arms_of-returns t c =
    sym (arms_made c.loop-arm.planned.items)
    ∙ made_all with_arm (λ l. resolved_arms c.args.names.now (syntax.arms_of l)) c.args.arms.now c.loop-arm.arm-index c.loop-arm.planned.items _ (omega arith) c.loop-arm.invariant

pub body_of-returns-in-None : goal.body_of-returns-in-None
body_of-returns-in-None t c =
    subst (λ w. IfOk c.block.result (λ b. block_of b.items ≡ w))
    (ap (λ l. resolved_block c.args.names.now (syntax.block_of l)) c.deref.ensures.value ∙ plain_body c.args.names.now c.args.inner.now c.in-None.is)
    c.block.ensures

pub body_of-returns-in-Some : goal.body_of-returns-in-Some
body_of-returns-in-Some t c =
    subst (λ w. IfOk c.unmarked.result (λ b. block_of b.items ≡ w))
    (ap (λ l. with_inner_unmarked (resolved_block c.args.names.now (syntax.block_of l))) c.deref-in-Some.ensures.value ∙ marked_body c.args.names.now c.args.inner.now c.in-Some.field-0 c.in-Some.is)
    c.unmarked.ensures

pub loop_with-returns : goal.loop_with-returns
loop_with-returns t c =
    do_vec c.args.nest _ c.in_ok-body.body
    ∙ (λ i. plan.do_loop c.args.nest (record { index = c.place_of-index.ensures i; control = c.in_ok-control.ensures i }) (c.in_ok-body.ensures i))
    ∙ from_parts c.args.names.now c.args.inner.now c.args.nest

pub unmarked-returns-else-stmts-eq1 : goal.unmarked-returns-else-stmts-eq1
unmarked-returns-else-stmts-eq1 t c =
    subst (λ w. IfOk c.block.result (λ b. block_of b.items ≡ w)) (sym (other_count c.args.names.now c.args.stmts.now c.if-stmts-eq1.false).0) c.block.ensures

pub unmarked_action-returns-in_default : goal.unmarked_action-returns-in_default
unmarked_action-returns-in_default t c =
    subst (λ w. IfOk c.action.result (λ a. statement a ≡ w)) (sym (no_loop c.args.names.now c.args.stmt.now.line c.args.stmt.now.what c.in_default.not-Do).1) c.action.ensures
