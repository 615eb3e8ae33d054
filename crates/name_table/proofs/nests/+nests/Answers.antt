use Rattle.std.proofs.Common.{ap, ◌∙◌, refl}
use Rattle.std.specs.List.{flat_map}
use Rattle.hpf_base.specs.FirstBreach.{least}
use Rattle.syntax_tree.specs.declared.stmt.Arm.{out-Arm}
use Rattle.syntax_tree.specs.Statement.{arms_of, block_of, statement}
use Rattle.name_table.specs.NameRules.{nest_breaches}
use Rattle.statement_walk.specs.Nests.{arm_nests, nests, statement_nests}
use Rattle.expression_rules.proofs.Turns.{first_next}
use Rattle.name_table.proofs.NestSteps.{arm_step, if_alone_nests, if_nests, nests_first, plain_nests}
use Rattle.name_table.proofs.nests.+nests.Goals as goal

pub deep_nest_of-returns-in-None : goal.deep_nest_of-returns-in-None
deep_nest_of-returns-in-None t c =
    c.deep_nest_of_arms-first.ensures
    ∙ ap (λ l. least (flat_map nest_breaches (arm_nests (arms_of l)))) c.deref-in-If.ensures.value
    ∙ ap (λ l. least (flat_map nest_breaches l)) (if_alone_nests c.args.stmt.now.line c.args.stmt.now.what c.in-If.arms c.in-If.rest c.in-If.glued c.in-If.is c.in-None.is)

pub deep_nest_of-returns-in-Some : goal.deep_nest_of-returns-in-Some
deep_nest_of-returns-in-Some t c =
    let line = c.args.stmt.now.line in
    nests_first (arm_nests (arms_of c.in-If.arms.items)) (nests (block_of c.in-Some.stmts.items)) (statement_nests line (statement line c.args.stmt.now.what))
    c.deep_nest_of_arms-first.result c.first_deep_nest.result c.earlier.result
    (c.deep_nest_of_arms-first.ensures ∙ ap (λ l. least (flat_map nest_breaches (arm_nests (arms_of l)))) c.deref-in-If.ensures.value)
    (c.first_deep_nest.ensures ∙ ap (λ l. least (flat_map nest_breaches (nests (block_of l)))) c.deref-in-Some.ensures.value)
    c.earlier.ensures
    (if_nests line c.args.stmt.now.what c.in-If.arms c.in-If.rest c.in-Some.stmts c.in-If.glued c.in-If.is c.in-Some.is)

pub deep_nest_of_arms-loop-arm-preserved : goal.deep_nest_of_arms-loop-arm-preserved
deep_nest_of_arms-loop-arm-preserved t c =
    first_next nest_breaches (λ as'. arm_nests (arms_of as')) (λ a. nests (block_of (out-Arm a).body.items)) arm_step
    c.args.arms.now c.loop-arm.arm-index c.arm-item.result c.loop-arm.first c.first_deep_nest.result c.earlier-first.result c.loop-arm-test.true c.arm-item.is
    (c.first_deep_nest.ensures ∙ ap (λ l. least (flat_map nest_breaches (nests (block_of l)))) c.deref.ensures.value)
    c.earlier-first.ensures c.loop-arm.invariant

pub deep_nest_of_do-returns-in-None : goal.deep_nest_of_do-returns-in-None
deep_nest_of_do-returns-in-None t c =
    c.first_deep_nest.ensures
    ∙ ap (λ l. least (flat_map nest_breaches (nests (block_of l)))) c.deref.ensures.value
    ∙ ap (λ l. least (flat_map nest_breaches l)) (plain_nests c.args.line c.args.inner.now c.in-None.is)

pub first_deep_nest-loop-stmt-preserved : goal.first_deep_nest-loop-stmt-preserved
first_deep_nest-loop-stmt-preserved t c =
    first_next nest_breaches (λ ss. nests (block_of ss)) (λ s. statement_nests s.line (statement s.line s.what)) (λ s ss. refl)
    c.args.stmts.now c.loop-stmt.stmt-index c.stmt-item.result c.loop-stmt.first c.deep_nest_of.result c.earlier-first.result c.loop-stmt-test.true c.stmt-item.is
    c.deep_nest_of.ensures c.earlier-first.ensures c.loop-stmt.invariant
