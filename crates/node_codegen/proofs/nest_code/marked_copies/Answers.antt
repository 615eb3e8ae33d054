use Rattle.std.proofs.Common.{sym, ap, ◌∙◌}
use Rattle.array_meaning.specs.Statements.{Outermost}
use Rattle.resolved_program.specs.Resolved.{block_of, mark}
use Rattle.program_code.specs.StatementCode.{marked_copies}
use Rattle.node_codegen.specs.NestNames.{nest_of}
use Rattle.node_codegen.proofs.NestWhole.{copies_marked}
use Rattle.node_codegen.proofs.nest_code.marked_copies.Goals as goal

pub returns-in_ok-nest_rows-in-Some : goal.returns-in_ok-nest_rows-in-Some
returns-in_ok-nest_rows-in-Some c = λ l loops.
    let block = block_of c.args.body.now.items in
    let nest = nest_of c.in-Some.nest l block in
    c.in_ok-nest_rows-in-Some.ensures nest
    ∙ sym (copies_marked c.args.names nest c.innermost-inside.result.now.items loops (λ e. c.if-len-eq0.false (c.len.ensures ∙ c.innermost-inside.result.now.ok.0 ∙ e)))
    ∙ ap (λ b. marked_copies c.args.names (Outermost nest b) loops) c.innermost-inside.ensures
    ∙ ap (λ o. marked_copies c.args.names (mark o l block) loops) (sym c.in-Some.is)
