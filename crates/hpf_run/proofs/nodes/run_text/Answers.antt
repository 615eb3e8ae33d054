use Rattle.std.proofs.Common.{subst}
use Rattle.syntax_tree.specs.MainProgram.{main_program}
use Rattle.hpf_run.specs.Accepted.{IsError}
use Rattle.hpf_run.specs.Reply.{ActionMeant, outcome_of, text_memory}
use Rattle.hpf_run.proofs.TopLaws.{accepted-meant, refused-meant}
use Rattle.hpf_run.proofs.nodes.run_text.Goals as goal

pub returns-in-Ok : goal.returns-in-Ok
returns-in-Ok g c =
    let p = main_program c.in-Ok.accepted.program.tree in
    let job = c.args.job.now in
    accepted-meant c.args.form c.args.text.now job p (outcome_of c.run_accepted.result) c.in-Ok.ensures.accepted
    (subst (λ g. ActionMeant g job.arrays p job.action (outcome_of c.run_accepted.result)) c.in-Ok.ensures.grid c.run_accepted.ensures)

pub returns-in-Err-Refused : goal.returns-in-Err-Refused
returns-in-Err-Refused g c =
    refused-meant c.args.form c.args.text.now c.args.job.now c.in-Err-Refused.refusal _
    (subst (IsError c.args.form c.args.job.now.grid c.args.text.now) c.in-Err-Refused.field-0-is c.in-Err-Refused.ensures.refused) c.reply_refused.ensures

pub returns-in-Err-Memory : goal.returns-in-Err-Memory
returns-in-Err-Memory g c = text_memory
