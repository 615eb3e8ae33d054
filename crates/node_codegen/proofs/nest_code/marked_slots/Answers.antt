use Rattle.std.proofs.Common.{sym, ap, ◌∙◌}
use Rattle.array_meaning.specs.Statements.{Outermost}
use Rattle.resolved_program.specs.Resolved.{block_of, mark}
use Rattle.program_code.specs.StatementCode.{marked_slots}
use Rattle.node_codegen.specs.NestNames.{nest_of}
use Rattle.node_codegen.proofs.NestWhole.{slots_marked}
use Rattle.node_codegen.proofs.nest_code.marked_slots.Goals as goal

pub returns-in_ok-nest_slots-in-Some : goal.returns-in_ok-nest_slots-in-Some
returns-in_ok-nest_slots-in-Some c = λ l loops.
    let block = block_of c.args.body.now.items in
    let nest = nest_of c.in-Some.nest l block in
    c.in_ok-nest_slots-in-Some.ensures l
    ∙ sym (slots_marked nest c.innermost-inside.result.now.items loops (λ e. c.if-len-eq0.false (c.len.ensures ∙ c.innermost-inside.result.now.ok.0 ∙ e)))
    ∙ ap (λ b. marked_slots (Outermost nest b) loops) c.innermost-inside.ensures
    ∙ ap (λ o. marked_slots (mark o l block) loops) (sym c.in-Some.is)
