use Rattle.std.proofs.Common.{subst}
use Rattle.hpf_run.specs.Command.{form_of}
use Rattle.hpf_run.specs.Reply.{TextMeant, outcome_of}
use Rattle.hpf_run.proofs.TopLaws.{alone-reads, text-meant}
use Rattle.hpf_run.proofs.alone.reply_alone.Goals as goal

pub returns-in-Ok : goal.returns-in-Ok
returns-in-Ok g c = λ words command.
    text-meant words _ _ c.args.job.now c.in-Ok.text.items _ command (alone-reads c.args.job.now.action c.requires) c.in-Ok.ensures.whole c.in-Ok.ensures.end c.in-Ok.ensures.short
    (subst (λ t. TextMeant (form_of c.args.job.now) t c.args.job.now (outcome_of c.reply_to_text.result)) c.deref.ensures.value c.reply_to_text.ensures)

pub returns-in-Err : goal.returns-in-Err
returns-in-Err g c = λ words command. c.in-Err.ensures.unread words c.args.job.now command (alone-reads c.args.job.now.action c.requires)
