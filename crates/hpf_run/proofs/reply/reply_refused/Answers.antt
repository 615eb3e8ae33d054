use Rattle.hpf_run.specs.Reply.{reply_memory, reply_refused}
use Rattle.hpf_run.proofs.reply.reply_refused.Goals as goal

pub returns-in-Ok : goal.returns-in-Ok
returns-in-Ok c = reply_refused c.in-Ok.text.items c.in-Ok.ensures

pub returns-in-Err : goal.returns-in-Err
returns-in-Err c = reply_memory
