use Rattle.std.proofs.Common.{ap, [], ◌∷◌, ◌++◌, ◌∙◌}
use Rattle.syntax_tree.specs.declared.stmt.Arm.{out-Arm}
use Rattle.syntax_tree.specs.declared.stmt.DoLoop.{out-DoLoop}
use Rattle.syntax_tree.specs.Statement.{arms_of, block_of, statement}
use Rattle.statement_walk.specs.Heads.{arm_heads, heads, statement_heads}
use Rattle.directive_check.specs.Redistributes.{redistributes, said}
use Rattle.directive_check.proofs.ListTurns.{push_item}
use Rattle.directive_check.proofs.RedistributeSteps.{arm_more, in_do, in_if, in_if_alone, none_in_forall, none_in_where, statement_more}
use Rattle.directive_check.proofs.redistributes.+redistributes.Goals as goal

pub push_all-loop-stmt-preserved : goal.push_all-loop-stmt-preserved
push_all-loop-stmt-preserved t c = λ xs.
    push_item (λ ss. redistributes (heads xs (block_of ss))) (λ s. redistributes (statement_heads xs s.line (statement s.line s.what))) (statement_more xs)
    c.args.stmts.now c.loop-stmt.stmt-index c.stmt-item.result (said c.loop-stmt.found.items) (said c.push_one.new.found.items) _ c.loop-stmt-test.true c.stmt-item.is
    (c.in_ok-push_one.ensures xs) (c.loop-stmt.invariant xs)

pub push_arms-loop-arm-preserved : goal.push_arms-loop-arm-preserved
push_arms-loop-arm-preserved t c = λ xs.
    push_item (λ as'. redistributes (arm_heads xs (arms_of as'))) (λ a. redistributes (heads xs (block_of (out-Arm a).body.items))) (arm_more xs)
    c.args.arms.now c.loop-arm.arm-index c.arm-item.result (said c.loop-arm.found.items) (said c.push_all.new.found.items) _ c.loop-arm-test.true c.arm-item.is
    (c.in_ok-push_all.ensures xs ∙ ap (λ l. said c.loop-arm.found.items ++ redistributes (heads xs (block_of l))) c.deref.ensures.value) (c.loop-arm.invariant xs)

pub push_one-returns-in-None : goal.push_one-returns-in-None
push_one-returns-in-None t c = λ xs.
    c.in_ok-push_arms-in-If.ensures xs
    ∙ ap (λ l. said c.args.found.now.items ++ redistributes (arm_heads xs (arms_of l))) c.deref-in-If.ensures.value
    ∙ ap (λ l. said c.args.found.now.items ++ l) (in_if_alone xs c.args.stmt.now.line c.args.stmt.now.what c.in-If.arms c.in-If.rest c.in-If.glued c.in-If.is c.in-None.is)

pub push_one-returns-in_ok-push_all-in-Some : goal.push_one-returns-in_ok-push_all-in-Some
push_one-returns-in_ok-push_all-in-Some t c = λ xs.
    in_if xs c.args.stmt.now.line c.args.stmt.now.what c.in-If.arms c.in-If.rest c.in-Some.stmts c.in-If.glued (said c.args.found.now.items)
    (said c.push_arms.new.found.items) (said c.push_all-in-Some.new.found.items) c.in-If.is c.in-Some.is
    (c.in_ok-push_arms-in-If.ensures xs ∙ ap (λ l. said c.args.found.now.items ++ redistributes (arm_heads xs (arms_of l))) c.deref-in-If.ensures.value)
    (c.in_ok-push_all-in-Some.ensures xs ∙ ap (λ l. said c.push_arms.new.found.items ++ redistributes (heads xs (block_of l))) c.deref-in-Some.ensures.value)

pub push_one-returns-in_ok-push_all-in-Do : goal.push_one-returns-in_ok-push_all-in-Do
push_one-returns-in_ok-push_all-in-Do t c = λ xs.
    c.in_ok-push_all-in-Do.ensures (xs ++ (out-DoLoop c.in-Do.inner).index ∷ [])
    ∙ ap (λ l. said c.args.found.now.items ++ redistributes (heads (xs ++ (out-DoLoop c.in-Do.inner).index ∷ []) (block_of l))) c.deref-in-Do.ensures.value
    ∙ ap (λ l. said c.args.found.now.items ++ l) (in_do xs c.args.stmt.now.line c.args.stmt.now.what c.in-Do.inner c.in-Do.is)

pub push_one-returns-in-Where : goal.push_one-returns-in-Where
push_one-returns-in-Where t c = λ xs.
    none_in_where xs c.args.stmt.now.line c.args.stmt.now.what c.in-Where.mask c.in-Where.body c.in-Where.rest c.in-Where.one c.in-Where.glued
    (said c.args.found.now.items) c.in-Where.is

pub push_one-returns-in-Forall : goal.push_one-returns-in-Forall
push_one-returns-in-Forall t c = λ xs.
    none_in_forall xs c.args.stmt.now.line c.args.stmt.now.what c.in-Forall.axes c.in-Forall.mask c.in-Forall.body c.in-Forall.one c.in-Forall.glued
    c.in-Forall.marked (said c.args.found.now.items) c.in-Forall.is
