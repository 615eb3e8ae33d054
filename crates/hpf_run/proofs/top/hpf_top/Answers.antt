use Rattle.std.proofs.Common.{refl}
use Rattle.hpf_run.specs.Outcome.{means_memory_unread}
use Rattle.hpf_run.proofs.TopLaws.{usage-meant}
use Rattle.hpf_run.proofs.top.hpf_top.Goals as goal

pub returns-in-Err-Usage-clause-answer : goal.returns-in-Err-Usage-clause-answer
returns-in-Err-Usage-clause-answer g c =
    record { outcome = _; meant = usage-meant _ _ (c.in-Err-Usage.ensures.err c.in-Err-Usage.field-0-is); delivered = c.deliver.ensures }

pub returns-in-Err-Memory-clause-answer : goal.returns-in-Err-Memory-clause-answer
returns-in-Err-Memory-clause-answer g c = record { outcome = _; meant = means_memory_unread refl; delivered = c.deliver-in-Err-Memory.ensures }
