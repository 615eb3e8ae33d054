use Rattle.std.proofs.Common.{subst}
use Rattle.syntax_tree.specs.MainProgram.{main_program}
use Rattle.hpf_run.specs.Accepted.{IsAccepted, IsError, IsRefused}
use Rattle.hpf_run.specs.Command.{form_of}
use Rattle.hpf_run.specs.Reply.{ActionMeant, outcome_of, text_memory}
use Rattle.hpf_run.proofs.TopLaws.{accepted-meant, refused-meant}
use Rattle.hpf_run.proofs.alone.reply_to_text.Goals as goal

pub returns-in-Ok : goal.returns-in-Ok
returns-in-Ok c =
    let p = main_program c.in-Ok.accepted.program.tree in
    let job = c.args.job.now in
    accepted-meant (form_of job) c.args.text.now job p (outcome_of c.reply_to_accepted.result)
    (subst (λ f. IsAccepted f job.grid c.args.text.now p) c.form_of.ensures c.in-Ok.ensures.accepted)
    (subst (λ g. ActionMeant g job.arrays p job.action (outcome_of c.reply_to_accepted.result)) c.in-Ok.ensures.grid c.reply_to_accepted.ensures)

pub returns-in-Err-Refused : goal.returns-in-Err-Refused
returns-in-Err-Refused c =
    let job = c.args.job.now in
    refused-meant (form_of job) c.args.text.now job c.in-Err-Refused.refusal _
    (subst (λ f. IsRefused f job.grid c.args.text.now c.in-Err-Refused.refusal) c.form_of.ensures
    (subst (IsError c.form_of.result job.grid c.args.text.now) c.in-Err-Refused.field-0-is c.in-Err-Refused.ensures.refused))
    c.reply_refused.ensures

pub returns-in-Err-Memory : goal.returns-in-Err-Memory
returns-in-Err-Memory c = text_memory
