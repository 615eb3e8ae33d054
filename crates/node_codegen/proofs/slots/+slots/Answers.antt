use Rattle.std.proofs.Common.{◌≡◌, ◌+◌, ℕ, max, arith, sym, ap, ◌∙◌}
use Rattle.std.specs.Prelude.{unwrap_or}
use Rattle.resolved_program.specs.Resolved.{arms_of, block_of, loop_of, statement}
use Rattle.resolved_program.proofs.Rows.{arm_parts, do_vec, if_vec}
use Rattle.program_code.specs.StatementCode.{arms_slots, block_slots, statement_slots}
use Rattle.node_codegen.proofs.slots.+slots.Goals as goal

more_of : (test body n rest : ℕ) → n ≡ max test body → max n rest ≡ max test (max body rest)
more_of test body n rest is = omega (arith, is)

pub arm_slots-returns : goal.arm_slots-returns
arm_slots-returns t c = λ tail.
    more_of c.in_ok-test.test c.in_ok-body.body c.max.result (arms_slots tail) c.max.ensures
    ∙ (λ i. max ((c.in_ok-test.ensures ∙ ap (λ n. n + 1) c.in_ok-slots_of.ensures) i) (max ((c.in_ok-body.ensures ∙ ap (λ l. block_slots (block_of l)) c.deref.ensures.value) i) (arms_slots tail)))
    ∙ sym (ap arms_slots (arm_parts c.args.a.now tail))

pub statement_slots-returns-in_ok-rest-in-If : goal.statement_slots-returns-in_ok-rest-in-If
statement_slots-returns-in_ok-rest-in-If t c =
    c.max.ensures
    ∙ (λ i. max ((c.in_ok-most-in-If.ensures ∙ ap (λ l. arms_slots (arms_of l)) c.deref-in-If.ensures.value) i) ((c.in_ok-rest-in-If.ensures ∙ ap (λ l. block_slots (block_of l)) c.deref-in-If-2.ensures.value) i))
    ∙ sym (ap (λ s. statement_slots (statement s)) c.in-If.is ∙ ap statement_slots (if_vec c.in-If.arms c.in-If.other))

pub statement_slots-returns-in_ok-all-in-Some : goal.statement_slots-returns-in_ok-all-in-Some
statement_slots-returns-in_ok-all-in-Some t c =
    let loops = 4 + block_slots (block_of c.in-Do.body.items) in
    c.in_ok-all-in-Some.ensures
    ∙ (λ i. c.in_ok-head-in-Do.ensures i + (ap (λ r. unwrap_or r loops) (sym c.in-Some.is) ∙ c.in_ok-taken-in-Do.ensures (loop_of c.in-Do.l) loops) i)
    ∙ sym (ap (λ s. statement_slots (statement s)) c.in-Do.is ∙ ap statement_slots (do_vec c.in-Do.nest c.in-Do.l c.in-Do.body))

pub statement_slots-returns-in_ok-all-in-None : goal.statement_slots-returns-in_ok-all-in-None
statement_slots-returns-in_ok-all-in-None t c =
    let loops = 4 + block_slots (block_of c.in-Do.body.items) in
    c.in_ok-all-in-None.ensures
    ∙ (λ i. c.in_ok-head-in-Do.ensures i
    + (c.in_ok-plus-in-None.ensures ∙ ap (λ m. 4 + m) (c.in_ok-inner-in-None.ensures ∙ ap (λ l. block_slots (block_of l)) c.deref-in-None.ensures.value)
    ∙ ap (λ r. unwrap_or r loops) (sym c.in-None.is) ∙ c.in_ok-taken-in-Do.ensures (loop_of c.in-Do.l) loops) i)
    ∙ sym (ap (λ s. statement_slots (statement s)) c.in-Do.is ∙ ap statement_slots (do_vec c.in-Do.nest c.in-Do.l c.in-Do.body))
