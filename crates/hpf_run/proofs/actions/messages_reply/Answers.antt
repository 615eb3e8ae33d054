use Rattle.std.proofs.Common.{None, false, subst}
use Rattle.syntax_tree.specs.MainProgram.{main_program}
use Rattle.hpf_words.specs.declared.job.Action.TheVariants.{Messages}
use Rattle.hpf_run.specs.Outcome.{listed, messages_report}
use Rattle.hpf_run.specs.Reply.{IsReported, outcome_of}
use Rattle.hpf_run.proofs.TopLaws.{reported-meant}
use Rattle.hpf_run.proofs.actions.messages_reply.Goals as goal

pub returns : goal.returns
returns c = λ arrays.
    let grid = c.args.accepted.now.grid.now in
    let p = main_program c.args.accepted.now.program.tree in
    reported-meant grid arrays p Messages false (listed grid p) None (outcome_of c.list_program.result) messages_report
    (subst (λ es. IsReported es false (listed grid p) None (outcome_of c.list_program.result)) c.args.accepted.now.names c.list_program.ensures)
