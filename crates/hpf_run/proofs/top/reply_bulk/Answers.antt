use Rattle.std.proofs.Common.{◌∙◌, refl, subst}
use Rattle.hpf_run.specs.Outcome.{means_memory_unread}
use Rattle.hpf_reader.specs.declared.source_form.SourceForm.TheVariants.{Free}
use Rattle.hpf_run.specs.Reply.{TextMeant, outcome_of}
use Rattle.hpf_run.proofs.TopLaws.{bulk-meant}
use Rattle.hpf_run.proofs.top.reply_bulk.Goals as goal

pub returns-in-Ok : goal.returns-in-Ok
returns-in-Ok g c = λ words source command.
    bulk-meant words source c.args.job.now (outcome_of c.run_text.result) command c.requires.bulk
    (subst (λ t. TextMeant Free t c.args.job.now (outcome_of c.run_text.result)) (c.deref.ensures.value ∙ c.in-Ok.ensures) c.run_text.ensures)

pub returns-in-Err : goal.returns-in-Err
returns-in-Err g c = λ words source command. means_memory_unread refl
