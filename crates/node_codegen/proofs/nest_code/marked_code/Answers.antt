use Rattle.std.proofs.Common.{sym, ap, ◌∙◌}
use Rattle.array_meaning.specs.Statements.{Outermost}
use Rattle.resolved_program.specs.Resolved.{block_of, loop_of, mark}
use Rattle.program_code.specs.StatementCode.{marked_code}
use Rattle.node_codegen.specs.NestNames.{nest_of}
use Rattle.node_codegen.proofs.NestWhole.{marked_is}
use Rattle.node_codegen.proofs.nest_code.marked_code.Goals as goal

pub returns-in_ok-nest_code-in-Some : goal.returns-in_ok-nest_code-in-Some
returns-in_ok-nest_code-in-Some c = λ loops.
    let n = c.args.names in
    let line = c.args.line in
    let l = loop_of c.args.l.now in
    let block = block_of c.args.body.now.items in
    let nest = nest_of c.in-Some.nest l block in
    c.in_ok-nest_code-in-Some.ensures n line c.in_ok-w-in-Some.ensures
    ∙ sym (marked_is n line nest c.innermost-inside.result.now.items c.args.v c.args.pc loops (λ e. c.if-len-eq0.false (c.len.ensures ∙ c.innermost-inside.result.now.ok.0 ∙ e)))
    ∙ ap (λ b. marked_code n line (Outermost nest b) c.args.v c.args.pc loops) c.innermost-inside.ensures
    ∙ ap (λ o. marked_code n line (mark o l block) c.args.v c.args.pc loops) (sym c.in-Some.is)
