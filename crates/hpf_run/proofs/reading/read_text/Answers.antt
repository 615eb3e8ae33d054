use Rattle.std.proofs.Common.{Err, ap}
use Rattle.hpf_run.specs.Outcome.{means_memory, means_read_fault}
use Rattle.hpf_run.proofs.TopLaws.{job-reads, too_long-meant}
use Rattle.hpf_run.proofs.reading.read_text.Goals as goal

pub returns-in-Err-Fault-clause-unread : goal.returns-in-Err-Fault-clause-unread
returns-in-Err-Fault-clause-unread g c = λ words job command reading.
    let taken = c.in-Err-Fault.ensures.in_time (λ e. let is = c.in-Err-Fault.field-0-is in cc) in
    means_read_fault (job-reads words job _ command reading) (c.in-Err-Fault.ensures.fault (ap Err c.in-Err-Fault.field-0-is)) taken.0 taken.1 taken.2

pub returns-in-Err-TooLong-clause-unread : goal.returns-in-Err-TooLong-clause-unread
returns-in-Err-TooLong-clause-unread g c = λ words job command reading.
    let taken = c.in-Err-TooLong.ensures.too_long (ap Err c.in-Err-TooLong.field-0-is) in
    too_long-meant words _ _ job taken.0 command reading taken.1 taken.2

pub returns-in-Err-Memory-clause-unread : goal.returns-in-Err-Memory-clause-unread
returns-in-Err-Memory-clause-unread g c = λ words job command reading.
    let taken = c.in-Err-Memory.ensures.in_time (λ e. let is = c.in-Err-Memory.field-0-is in cc) in
    means_memory (job-reads words job _ command reading) taken.0 taken.1 taken.2
