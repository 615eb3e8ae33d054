-- Of private clauses.
-- No public clause cites this file.
-- What a reply says, and what a text, an accepted one and a refusal are answered by.
use Rattle.std.specs.Prelude.{◌≡◌, ℕ, Bool, List, [], Option}
use Rattle.hpf_base.specs.declared.refusal.Refusal.{Refusal}
use Rattle.hpf_base.specs.declared.status.Status.TheVariants as status
use Rattle.syntax_tree.specs.MainProgram.{MainProgram}
use Rattle.hpf_words.specs.declared.job.Action.{Action}
use Rattle.hpf_words.specs.declared.job.Job.{Job}
use Rattle.hpf_reader.specs.declared.source_form.SourceForm.{SourceForm}
use Rattle.hpf_run.specs.declared.reply.Reply.{Reply}
use Rattle.hpf_run.specs.declared.reply.Reply.TheVariants.{Done, Fault, Refused, Usage, ReadFault, TooLong, Memory}
use Rattle.name_table.specs.declared.names.Entry.{Entry}
use Rattle.array_meaning.specs.Serial as serial
use Rattle.distributed_run.specs.declared.ran.Ran.{Ran}
use Rattle.run_report.specs.FaultLine.{fault_line}
use Rattle.term_values.specs.declared.faults.Fault.{Fault as HeldFault}
use Rattle.term_values.specs.Faults.{fault}
use Rattle.hpf_run.specs.Outcome.{ActionOutcome, IsReportOf, Outcome, TextOutcome, memory_line, read_fault_line, refusal_line, told, too_long_line, usage_line}

-- the outcome that a reply stands for
abbrev pub outcome_of : Reply → Outcome
outcome_of (Done printed ran) = record { status = status.Done; out = printed.items; err = []; ran = ran }
outcome_of (Fault printed line ran) = record { status = status.Fault; out = printed.items; err = line.items; ran = ran }
outcome_of (Refused line) = told status.Refused [] line.items
outcome_of Usage = told status.Usage [] usage_line
outcome_of ReadFault = told status.ReadFault [] read_fault_line
outcome_of TooLong = told status.TooLong [] too_long_line
outcome_of Memory = told status.Memory [] memory_line

-- want of memory, which comes without a cause
abbrev pub no_memory : Outcome
no_memory = told status.Memory [] memory_line

-- what a job makes of a text, or want of memory
pub data TextMeant (form : SourceForm) (text : List ℕ) (job : Job) : Outcome → Type 0 where
  text_outcome : (o : Outcome) → TextOutcome form text job o → TextMeant form text job o
  text_memory : TextMeant form text job no_memory

-- what an action makes of an accepted text, or want of memory
pub data ActionMeant (grid : List ℕ) (arrays : Bool) (p : MainProgram) (act : Action) : Outcome → Type 0 where
  action_outcome : (o : Outcome) → ActionOutcome grid arrays p act o → ActionMeant grid arrays p act o
  action_memory : ActionMeant grid arrays p act no_memory

-- a refusal is answered, or want of memory
pub data IsReplyOf (r : Refusal) : Outcome → Type 0 where
  reply_refused : (line : List ℕ) → line ≡ refusal_line r → IsReplyOf r (told status.Refused [] line)
  reply_memory : IsReplyOf r no_memory

-- what a program comes to is reported, or want of memory
pub data IsReported (names : List Entry) (arrays : Bool) (s : serial.Outcome) (ran : Option Ran) : Outcome → Type 0 where
  reported : (o : Outcome) → IsReportOf names arrays s ran o → IsReported names arrays s ran o
  reported_memory : IsReported names arrays s ran no_memory

-- a fault is reported after what was printed, or want of memory
pub data IsFaulted (names : List Entry) (printed : List ℕ) (f : HeldFault) (ran : Option Ran) : Outcome → Type 0 where
  reported_fault : IsFaulted names printed f ran record { status = status.Fault; out = printed; err = fault_line names (fault f); ran = ran }
  fault_memory : IsFaulted names printed f ran no_memory
