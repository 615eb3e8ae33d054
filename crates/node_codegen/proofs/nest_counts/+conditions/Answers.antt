use Rattle.std.proofs.Common.{◌≡◌, ◌+◌, ℕ, drop, arith, sym, ap, ◌∙◌}
use Rattle.expression_rules.proofs.Lists.{drop_item}
use Rattle.program_code.specs.NestInstructions.{count_nest, count_nest_arms}
use Rattle.resolved_program.specs.Resolved.{arms_of, block_of, statement}
use Rattle.resolved_program.proofs.Rows.{arm_parts, do_vec, if_vec}
use Rattle.program_code.specs.NestCode.{plain, plain_arms, plain_else}
use Rattle.node_codegen.specs.NestTexts.{statement_conditions}
use Rattle.node_codegen.proofs.NestBody.{some_else}
use Rattle.node_codegen.proofs.nest_counts.+conditions.Goals as goal

added : (sum one more next left whole : ℕ) → next ≡ sum + one → more ≡ one + left → sum + more ≡ whole → next + left ≡ whole
added sum one more next left whole is parts so_far = omega (arith, is, parts, so_far)

pub arms_conditions-loop-a-preserved : goal.arms_conditions-loop-a-preserved
arms_conditions-loop-a-preserved t c = λ other.
    let n = c.loop-a.a-index in
    let a = c.a-item.result in
    let tail = arms_of (drop (n + 1) c.args.arms.now) in
    added c.loop-a.sum c.in_ok-one.one (count_nest_arms (plain_arms (arms_of (drop n c.args.arms.now)) other)) c.in_ok-sum.sum (count_nest_arms (plain_arms tail other)) _
    c.in_ok-sum.ensures
    (ap (λ l. count_nest_arms (plain_arms (arms_of l) other)) (drop_item c.args.arms.now n a c.loop-a-test.true c.a-item.is)
    ∙ ap (λ l. count_nest_arms (plain_arms l other)) (arm_parts a tail)
    ∙ ap (λ m. m + count_nest_arms (plain_arms tail other))
    (sym (c.in_ok-one.ensures ∙ ap (λ m. 1 + m) (c.in_ok-inside.ensures ∙ ap (λ l. count_nest (plain (block_of l))) c.deref.ensures.value))))
    (c.loop-a.invariant other)

pub statement_conditions-returns-in_ok-all-in-If : goal.statement_conditions-returns-in_ok-all-in-If
statement_conditions-returns-in_ok-all-in-If t c =
    let last = plain_else (plain (block_of c.in-If.other.items)) in
    c.in_ok-all-in-If.ensures
    ∙ ap (λ m. c.in_ok-own-in-If.own + m) (c.in_ok-rest-in-If.ensures ∙ ap (λ l. count_nest_arms (plain_else (plain (block_of l)))) c.deref-in-If.ensures.value)
    ∙ c.in_ok-own-in-If.ensures last
    ∙ ap (λ l. count_nest_arms (plain_arms (arms_of l) last)) c.deref.ensures.value
    ∙ ap statement_conditions (sym (ap statement c.in-If.is ∙ if_vec c.in-If.arms c.in-If.other))

pub statement_conditions-returns-in_ok-all-in-Do : goal.statement_conditions-returns-in_ok-all-in-Do
statement_conditions-returns-in_ok-all-in-Do t c =
    c.in_ok-all-in-Do.ensures
    ∙ ap (λ l. count_nest (plain (block_of l))) c.deref-in-Do.ensures.value
    ∙ ap statement_conditions (sym (ap statement c.in-Do.is ∙ do_vec c.in-Do.field-0 c.in-Do.field-1 c.in-Do.body))

pub else_conditions-returns : goal.else_conditions-returns
else_conditions-returns t c =
    let body = plain (block_of c.args.other.now) in
    let all : c.in_ok-all.all ≡ 1 + count_nest body + 0 = omega (arith, c.in_ok-all.ensures, c.in_ok-inside.ensures) in
    all ∙ ap count_nest_arms (sym (some_else body (sym c.is_bare.ensures ∙ c.if-is_bare.false)))
