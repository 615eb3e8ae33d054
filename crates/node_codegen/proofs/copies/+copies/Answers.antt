use Rattle.std.proofs.Common.{max, sym, ap, ◌∙◌}
use Rattle.std.specs.Prelude.{unwrap_or}
use Rattle.resolved_program.specs.Resolved.{arms_of, block_of, loop_of, statement}
use Rattle.resolved_program.proofs.Rows.{arm_parts, do_vec, if_vec}
use Rattle.program_code.specs.StatementCode.{arms_copies, block_copies, statement_copies}
use Rattle.node_codegen.proofs.copies.+copies.Goals as goal

pub arm_copies-returns : goal.arm_copies-returns
arm_copies-returns t c = λ tail.
    ap (λ m. max m (arms_copies c.args.names tail)) (c.in_ok-rows.ensures ∙ ap (λ l. block_copies c.args.names (block_of l)) c.deref.ensures.value)
    ∙ sym (ap (arms_copies c.args.names) (arm_parts c.args.a.now tail))

pub statement_copies-returns-in_ok-rest-in-If : goal.statement_copies-returns-in_ok-rest-in-If
statement_copies-returns-in_ok-rest-in-If t c =
    let n = c.args.names in
    c.max.ensures
    ∙ (λ i. max ((c.in_ok-most-in-If.ensures ∙ ap (λ l. arms_copies n (arms_of l)) c.deref.ensures.value) i) ((c.in_ok-rest-in-If.ensures ∙ ap (λ l. block_copies n (block_of l)) c.deref-in-If.ensures.value) i))
    ∙ sym (ap (λ a. statement_copies n (statement a)) c.in-If.is ∙ ap (statement_copies n) (if_vec c.in-If.arms c.in-If.other))

pub statement_copies-returns-in-Some : goal.statement_copies-returns-in-Some
statement_copies-returns-in-Some t c =
    let n = c.args.names in
    let loops = block_copies n (block_of c.in-Do.body.items) in
    ap (λ r. unwrap_or r loops) (sym c.in-Some.is)
    ∙ c.in_ok-rows-in-Do.ensures (loop_of c.in-Do.field-1) loops
    ∙ sym (ap (λ a. statement_copies n (statement a)) c.in-Do.is ∙ ap (statement_copies n) (do_vec c.in-Do.nest c.in-Do.field-1 c.in-Do.body))

pub statement_copies-returns-in_ok-rows-in-None : goal.statement_copies-returns-in_ok-rows-in-None
statement_copies-returns-in_ok-rows-in-None t c =
    let n = c.args.names in
    let loops = block_copies n (block_of c.in-Do.body.items) in
    c.in_ok-rows-in-None.ensures
    ∙ ap (λ l. block_copies n (block_of l)) c.deref-in-None.ensures.value
    ∙ ap (λ r. unwrap_or r loops) (sym c.in-None.is)
    ∙ c.in_ok-rows-in-Do.ensures (loop_of c.in-Do.field-1) loops
    ∙ sym (ap (λ a. statement_copies n (statement a)) c.in-Do.is ∙ ap (statement_copies n) (do_vec c.in-Do.nest c.in-Do.field-1 c.in-Do.body))
