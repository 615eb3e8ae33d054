-- Of the claim.
-- What a call of the program means to answer.
use Rattle.std.specs.Prelude.{◌≡◌, ℕ, ◌+◌, ◌<◌, ◌≤◌, Bool, true, false, ℤ, List, [], ◌++◌, length, take, codes, Option, None, Some, decimal}
use Rattle.hpf_base.specs.declared.refusal.Refusal.{Refusal}
use Rattle.hpf_base.specs.declared.status.Status.{Status}
use Rattle.hpf_base.specs.declared.status.Status.TheVariants.{Done, Refused, Fault, Usage, ReadFault, WriteFault, Memory, TooLong}
use Rattle.hpf_base.specs.ElementOrder.{product}
use Rattle.hpf_base.specs.Refusal.{name_of, number_of}
use Rattle.hpf_ports.specs.declared.limits.TheConstants.{MAX_SOURCE_BYTES}
use Rattle.hpf_ports.specs.Ports.{Gave, IsAtEnd, Rose, AreAppended}
use Rattle.syntax_tree.specs.MainProgram.{MainProgram}
use Rattle.name_table.specs.Entries.{entries}
use Rattle.name_table.specs.declared.names.Entry.{Entry}
use Rattle.array_meaning.specs.Faults as faults
use Rattle.array_meaning.specs.Serial as serial
use Rattle.array_meaning.specs.Serial.{Finished, Faulted}
use Rattle.directive_check.specs.ProgramMaps.{start_maps}
use Rattle.run_report.specs.ArraysText.{arrays_text}
use Rattle.run_report.specs.FaultLine.{fault_line}
use Rattle.run_report.specs.MapText.{map_text}
use Rattle.distributed_run.specs.ProgramMessages.{messages_text}
use Rattle.distributed_run.specs.Ran.{IsRunOf}
use Rattle.distributed_run.specs.declared.ran.Ran.{Ran}
use Rattle.hpf_words.specs.declared.job.Action.{Action}
use Rattle.hpf_words.specs.declared.job.Action.TheVariants.{Run, Serial, Check, Map, Messages, Bulk}
use Rattle.hpf_words.specs.declared.job.Job.{Job}
use Rattle.hpf_reader.specs.declared.source_form.SourceForm.{SourceForm}
use Rattle.hpf_reader.specs.declared.source_form.SourceForm.TheVariants.{Free}
use Rattle.hpf_run.specs.Accepted.{IsAccepted, IsRefused}
use Rattle.hpf_run.specs.BulkText.{bulk_text}
use Rattle.hpf_run.specs.Command.{IsCommand, IsNoCommand, form_of, reads, reads_source}
use Rattle.hpf_run.specs.declared.answer.Answer.{Answer}

-- a status, the bytes for standard output and standard error, and what a run on nodes leaves, where there was one
pub record Outcome : Type 0 where
  pub status : Status
  pub out : List ℕ
  pub err : List ℕ
  pub ran : Option Ran

-- that of an answer without a run on nodes
abbrev pub told : Status → List ℕ → List ℕ → Outcome
told status out err = record { status = status; out = out; err = err; ran = None }

-- the lines of standard error
abbrev pub usage_line : List ℕ
usage_line = codes "hpf: usage: hpf ACTION [--grid G] [--threads T] [--size N] [--arrays] [--fixed]\n"

abbrev pub read_fault_line : List ℕ
read_fault_line = codes "hpf: read fault\n"

abbrev pub memory_line : List ℕ
memory_line = codes "hpf: out of memory\n"

abbrev pub too_long_line : List ℕ
too_long_line = codes "hpf: source too long\n"

-- what `check` prints of a text that is accepted
abbrev pub accepted_line : List ℕ
accepted_line = codes "accepted\n"

-- the line, the reason's number and its name
abbrev pub refusal_line : Refusal → List ℕ
refusal_line refusal =
    codes "hpf: line " ++ decimal refusal.line ++ codes ": refused " ++ decimal (number_of refusal.reason) ++ codes " " ++ name_of refusal.reason ++ codes "\n"

-- what a program printed and, where they are asked for, the lines of its last arrays after it
abbrev pub with_arrays : Bool → List Entry → List ℕ → List (List ℤ) → List ℕ
with_arrays false names printed arrays = printed
with_arrays true names printed arrays = printed ++ arrays_text names arrays

-- what a program comes to is reported by what it printed and then, where it ended with a fault, by the line of that, and else by its last
-- arrays, where they are asked for; beside it stands what its run on nodes leaves, where there was one
pub data IsReportOf (names : List Entry) (arrays : Bool) (s : serial.Outcome) (ran : Option Ran) : Outcome → Type 0 where
  report_end : s.end ≡ Finished
      → IsReportOf names arrays s ran record { status = Done; out = with_arrays arrays names s.printed s.arrays; err = []; ran = ran }
  report_fault : (f : faults.Fault) → s.end ≡ Faulted f
      → IsReportOf names arrays s ran record { status = Fault; out = s.printed; err = fault_line names f; ran = ran }

-- the outcome of a program, with the lines of the messages that nodes of a grid send for it in place of what it prints
abbrev pub listed : List ℕ → MainProgram → serial.Outcome
listed grid p = record (serial.serial p) { printed = messages_text grid p }

-- a run on nodes is reported by what the program means in one order, with what the run leaves
pub record IsRunReport (grid : List ℕ) (arrays : Bool) (p : MainProgram) (o : Outcome) : Type 0 where
  pub ran : Ran
  pub is_run : IsRunOf grid p ran
  pub report : IsReportOf (entries p) arrays (serial.serial p) (Some ran) o

-- what an action makes of a program that is accepted on a grid. The messages are those up to the program's first fault, where it has one,
-- and that is reported after them
pub data ActionOutcome (grid : List ℕ) (arrays : Bool) (p : MainProgram) : Action → Outcome → Type 0 where
  check_done : ActionOutcome grid arrays p Check (told Done accepted_line [])
  map_done : ActionOutcome grid arrays p Map (told Done (map_text (product grid) (start_maps grid p)) [])
  serial_report : (o : Outcome) → IsReportOf (entries p) false (serial.serial p) None o → ActionOutcome grid arrays p Serial o
  run_report : (o : Outcome) → IsRunReport grid arrays p o → ActionOutcome grid arrays p Run o
  bulk_report : (o : Outcome) → IsRunReport grid arrays p o → ActionOutcome grid arrays p Bulk o
  messages_report : (o : Outcome) → IsReportOf (entries p) false (listed grid p) None o → ActionOutcome grid arrays p Messages o

-- what a job makes of a text in a source form: whatever the action, a text that isn't accepted on the grid is refused
pub data TextOutcome (form : SourceForm) (text : List ℕ) (job : Job) : Outcome → Type 0 where
  text_refused : (r : Refusal) → IsRefused form job.grid text r → TextOutcome form text job (told Refused [] (refusal_line r))
  text_accepted : (p : MainProgram) → IsAccepted form job.grid text p → (o : Outcome) → ActionOutcome job.grid job.arrays p job.action o → TextOutcome form text job o

-- the outcome of words and a source's bytes; bulk work is the run of its own text, which is in the free form, whatever the source has
pub data TopOutcome (words : List (List ℕ)) (bytes : List ℕ) : Outcome → Type 0 where
  is_usage : IsNoCommand words → TopOutcome words bytes (told Usage [] usage_line)
  is_of_bulk : (job : Job) → IsCommand words job → job.action ≡ Bulk → (o : Outcome) → TextOutcome Free (bulk_text job.size) job o → TopOutcome words bytes o
  is_too_long : (job : Job) → IsCommand words job → reads_source job.action ≡ true → MAX_SOURCE_BYTES < length bytes
      → TopOutcome words bytes (told TooLong [] too_long_line)
  is_of_text : (job : Job) → IsCommand words job → reads_source job.action ≡ true → length bytes ≤ MAX_SOURCE_BYTES → (o : Outcome)
      → TextOutcome (form_of job) bytes job o → TopOutcome words bytes o

-- what a port tells: its bytes, where it tells them, and its count of faults
pub record Port : Type 0 where
  pub bytes : Option (List ℕ)
  pub faults : ℕ

abbrev pub port : Option (List ℕ) → ℕ → Port
port bytes faults = record { bytes = bytes; faults = faults }

-- the bytes that a source had left, where it tells them
abbrev pub Had : Option (List ℕ) → List ℕ → Type 0
Had None bytes = Unit {0}
Had (Some left) bytes = left ≡ bytes

-- how far a source was read for a status: not at all where the words ask for nothing that reads it, else one byte past the limit, or to its end
abbrev pub IsRead : Bool → Status → Option (List ℕ) → Option (List ℕ) → List ℕ → Type 0
IsRead false status left left' bytes = left' ≡ left
IsRead true TooLong left left' bytes = Gave left left' (take (MAX_SOURCE_BYTES + 1) bytes)
IsRead true status left left' bytes = Gave left left' bytes × IsAtEnd left'

-- what a call means to answer: the outcome of its words and its source, or a counted read fault, or want of
-- memory, which comes without a cause; at a read fault and in want of memory the source gave no byte past the limit, and none for
-- words that ask for nothing that reads it
pub data Meant (words : List (List ℕ)) (source source' : Port) : Outcome → Type 0 where
  means_outcome : (bytes : List ℕ) (o : Outcome) → Had source.bytes bytes → TopOutcome words bytes o
      → IsRead (reads words) o.status source.bytes source'.bytes bytes → Meant words source source' o
  means_read_fault : reads words ≡ true → Rose source.faults source'.faults → (taken : List ℕ) → length taken ≤ MAX_SOURCE_BYTES
      → Gave source.bytes source'.bytes taken → Meant words source source' (told ReadFault [] read_fault_line)
  means_memory : reads words ≡ true → (taken : List ℕ) → length taken ≤ MAX_SOURCE_BYTES
      → Gave source.bytes source'.bytes taken → Meant words source source' (told Memory [] memory_line)
  means_memory_unread : source' ≡ source → Meant words source source' (told Memory [] memory_line)

-- what is written of it, the status, and what is kept of a run: all of it, or a proper prefix of one sink's text where that sink's count
-- of faults rose
pub data Delivered (o : Outcome) (out out' err err' : Port) : Status → Option Ran → Type 0 where
  all_written : AreAppended out.bytes out'.bytes o.out → AreAppended err.bytes err'.bytes o.err → Delivered o out out' err err' o.status o.ran
  out_failed : Rose out.faults out'.faults → (n : ℕ) → n < length o.out → AreAppended out.bytes out'.bytes (take n o.out) → err'.bytes ≡ err.bytes
      → Delivered o out out' err err' WriteFault None
  err_failed : Rose err.faults err'.faults → AreAppended out.bytes out'.bytes o.out → (n : ℕ) → n < length o.err → AreAppended err.bytes err'.bytes (take n o.err)
      → Delivered o out out' err err' WriteFault None

-- what a call of the program answers, where its source and its two sinks stood so before it and so after it: the status of
-- what the call means, which is delivered, and what its run on nodes leaves
pub record IsAnswer (words : List (List ℕ)) (source source' out out' err err' : Port) (answer : Answer) : Type 0 where
  pub outcome : Outcome
  pub meant : Meant words source source' outcome
  pub delivered : Delivered outcome out out' err err' answer.status answer.ran
