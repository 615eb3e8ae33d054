use Rattle.hpf_words.specs.declared.job.Action.TheVariants.{Check}
use Rattle.hpf_run.specs.Outcome.{accepted_line, check_done}
use Rattle.hpf_run.specs.Reply.{action_memory}
use Rattle.hpf_run.proofs.TopLaws.{done-meant}
use Rattle.hpf_run.proofs.actions.accepted_reply.Goals as goal

pub returns-in-Ok : goal.returns-in-Ok
returns-in-Ok c = λ grid arrays p. done-meant grid arrays p Check c.in-Ok.line.items accepted_line c.in-Ok.ensures.items check_done

pub returns-in-Err : goal.returns-in-Err
returns-in-Err c = λ grid arrays p. action_memory
