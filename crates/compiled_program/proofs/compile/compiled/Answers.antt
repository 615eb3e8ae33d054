use Rattle.std.proofs.Common.{◌≡◌, IfOk, length, ap, subst, ◌∙◌}
use Rattle.node_code.specs.Texts.{instructions}
use Rattle.resolved_program.specs.Resolved.{block_of}
use Rattle.nodes_lowered.specs.StatementCode.{program_code}
use Rattle.node_codegen.specs.Moves.{moves_by}
use Rattle.compiled_program.proofs.compile.compiled.Goals as goal

pub returns-clause-code : goal.returns-clause-code
returns-clause-code c =
    subst (λ is. IfOk c.compile.result (λ code. instructions code.instructions.items ≡ is))
    (ap (λ n. program_code n (moves_by c.args.moves.now) (block_of c.in_ok-plan.plan.body.items)) c.len.ensures ∙ ap (program_code (length c.args.program.now.names) (moves_by c.args.moves.now)) c.in_ok-plan.ensures)
    c.compile.ensures.code
