use Rattle.std.proofs.Common.{subst}
use Rattle.hpf_run.specs.Command.{form_of}
use Rattle.hpf_run.specs.Reply.{TextMeant, outcome_of}
use Rattle.hpf_run.proofs.TopLaws.{text-meant}
use Rattle.hpf_run.proofs.top.reply_run.Goals as goal

pub returns-in-Ok : goal.returns-in-Ok
returns-in-Ok g c = λ words command.
    let o = outcome_of c.run_text.result in
    text-meant words _ _ c.args.job.now c.in-Ok.text.items _ command c.requires.reads c.in-Ok.ensures.whole c.in-Ok.ensures.end c.in-Ok.ensures.short
    (subst (λ t. TextMeant (form_of c.args.job.now) t c.args.job.now o) c.deref.ensures.value
    (subst (λ f. TextMeant f c.deref.result.now c.args.job.now o) c.form_of.ensures c.run_text.ensures))

pub returns-in-Err : goal.returns-in-Err
returns-in-Err g c = λ words command. c.in-Err.ensures.unread words c.args.job.now command c.requires.reads
