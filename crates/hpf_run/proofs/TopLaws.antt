-- From what the parts answer to what the top call means.
use Rattle.std.proofs.Common.{◌≡◌, ℕ, ◌+◌, ◌<◌, ◌≤◌, Bool, true, false, List, [], ◌++◌, length, take, Option, None, Some, map, refl, sym, ◌∙◌, ap, subst, arith}
use Rattle.std.proofs.lemmas.List.{append-nil, length-append, take_at}
use Rattle.std.proofs.lemmas.Option.{same_Some}
use Rattle.hpf_base.specs.declared.refusal.Refusal.{Refusal}
use Rattle.hpf_base.specs.declared.status.Status.TheVariants.{Done, Fault, Refused, TooLong, Usage, WriteFault}
use Rattle.hpf_base.specs.declared.status.Status.{Status}
use Rattle.hpf_ports.specs.declared.limits.TheConstants.{MAX_SOURCE_BYTES}
use Rattle.hpf_ports.specs.Ports.{Gave, IsAtEnd, Rose, AreAppended}
use Rattle.syntax_tree.specs.MainProgram.{MainProgram}
use Rattle.hpf_words.specs.declared.job.Action.{Action}
use Rattle.hpf_words.specs.declared.job.Action.TheVariants.{Run, Serial, Check, Map, Messages, Bulk}
use Rattle.hpf_words.specs.declared.job.Job.{Job}
use Rattle.hpf_reader.specs.declared.source_form.SourceForm.{SourceForm}
use Rattle.hpf_reader.specs.declared.source_form.SourceForm.TheVariants.{Free}
use Rattle.name_table.specs.Entries.{entries}
use Rattle.name_table.specs.declared.names.Entry.{Entry}
use Rattle.array_meaning.specs.Serial as serial
use Rattle.array_meaning.specs.Serial.{serial}
use Rattle.term_values.specs.declared.faults.Fault.{Fault as HeldFault}
use Rattle.term_values.specs.Faults.{fault}
use Rattle.distributed_run.specs.declared.ran.Ran.{Ran}
use Rattle.distributed_run.specs.declared.run.NodesOutcome.{NodesOutcome}
use Rattle.distributed_run.specs.Outcomes.{IsOutcome}
use Rattle.distributed_run.specs.Ran.{IsRunOf}
use Rattle.run_report.specs.FaultLine.{fault_line}
use Rattle.hpf_run.specs.Accepted.{IsAccepted, IsRefused}
use Rattle.hpf_run.specs.declared.answer.Answer.{Answer}
use Rattle.hpf_run.specs.BulkText.{bulk_text}
use Rattle.hpf_run.specs.Command.{IsCommand, IsNoCommand, form_of, reads, reads_source, runs_on_nodes, some_reads}
use Rattle.hpf_run.specs.Outcome.{is_of_bulk, is_of_text, is_too_long, is_usage, text_accepted, text_refused, check_done, map_done, messages_report, run_report, bulk_report, serial_report, report_end, report_fault, means_memory, means_memory_unread, means_outcome, means_read_fault, all_written, err_failed, out_failed}
use Rattle.hpf_run.specs.Outcome.{ActionOutcome, IsAnswer, IsReportOf, IsRunReport, listed, Delivered, Had, IsRead, Meant, Outcome, TextOutcome, TopOutcome, Port, port, told, too_long_line, usage_line, with_arrays}
use Rattle.hpf_run.specs.Reply.{ActionMeant, IsFaulted, IsReplyOf, IsReported, TextMeant, action_memory, action_outcome, reply_memory, reply_refused, reported, reported_fault, reported_memory, fault_memory, text_memory, text_outcome}

-- the reply to a refusal is what a job makes of a text that is refused so
pub refused-meant : (form : SourceForm) (text : List ℕ) (job : Job) (r : Refusal) (o : Outcome) → IsRefused form job.grid text r → IsReplyOf r o → TextMeant form text job o
refused-meant form text job r o is (reply_refused line line_is) =
    subst (λ l. TextMeant form text job (told Refused [] l)) (sym line_is) (text_outcome _ (text_refused r is))
refused-meant form text job r o is reply_memory = text_memory

-- what the job's action makes of an accepted text is what the job makes of it
pub accepted-meant : (form : SourceForm) (text : List ℕ) (job : Job) (p : MainProgram) (o : Outcome) → IsAccepted form job.grid text p → ActionMeant job.grid job.arrays p job.action o
    → TextMeant form text job o
accepted-meant form text job p o is (action_outcome made by) = text_outcome made (text_accepted p is made by)
accepted-meant form text job p o is action_memory = text_memory

-- what an action prints
pub done-meant : (grid : List ℕ) (arrays : Bool) (p : MainProgram) (act : Action) (bytes printed : List ℕ) → bytes ≡ printed
    → ActionOutcome grid arrays p act (told Done printed []) → ActionMeant grid arrays p act (told Done bytes [])
done-meant grid arrays p act bytes printed same is =
    subst (λ b. ActionMeant grid arrays p act (told Done b [])) (sym same) (action_outcome _ is)

-- what a program comes to is what an action makes of it, where its report is
pub reported-meant : (grid : List ℕ) (arrays : Bool) (p : MainProgram) (act : Action) (with_last : Bool) (s : serial.Outcome) (ran : Option Ran) (o : Outcome)
    → ((o' : Outcome) → IsReportOf (entries p) with_last s ran o' → ActionOutcome grid arrays p act o') → IsReported (entries p) with_last s ran o
    → ActionMeant grid arrays p act o
reported-meant grid arrays p act with_last s ran o made (reported o' is) = action_outcome o' (made o' is)
reported-meant grid arrays p act with_last s ran o made reported_memory = action_memory

-- the report of a run is what both actions that run on nodes make of a program
run-reported : (grid : List ℕ) (arrays : Bool) (p : MainProgram) (act : Action) → runs_on_nodes act ≡ true → (o : Outcome) → IsRunReport grid arrays p o
    → ActionOutcome grid arrays p act o
run-reported grid arrays p Run on o is = run_report o is
run-reported grid arrays p Bulk on o is = bulk_report o is
run-reported grid arrays p Serial on o is = cc
run-reported grid arrays p Check on o is = cc
run-reported grid arrays p Map on o is = cc
run-reported grid arrays p Messages on o is = cc

pub run-meant : (grid : List ℕ) (arrays : Bool) (p : MainProgram) (act : Action) (ran : Ran) (o : Outcome) → runs_on_nodes act ≡ true → IsRunOf grid p ran
    → IsReported (entries p) arrays (serial p) (Some ran) o → ActionMeant grid arrays p act o
run-meant grid arrays p act ran o on is report =
    reported-meant grid arrays p act arrays (serial p) (Some ran) o
    (λ o' of. run-reported grid arrays p act on o' record { ran = ran; is_run = is; report = of }) report

-- a fault that is reported after what was printed is the report of a program that has this fault
pub faulted-reported : (names : List Entry) (arrays : Bool) (s : serial.Outcome) (ran : Option Ran) (printed : List ℕ) (f : HeldFault) (o : Outcome) → printed ≡ s.printed
    → s.end ≡ serial.Faulted (fault f) → IsFaulted names printed f ran o → IsReported names arrays s ran o
faulted-reported names arrays s ran printed f o same end reported_fault =
    subst (λ b. IsReported names arrays s ran record { status = Fault; out = b; err = fault_line names (fault f); ran = ran }) (sym same)
    (reported _ (report_fault (fault f) end))
faulted-reported names arrays s ran printed f o same end fault_memory = reported_memory

-- what a program has printed that is finished, with its last arrays where they are asked for, is the report of it
pub finished-reported : (names : List Entry) (arrays : Bool) (s : serial.Outcome) (ran : Option Ran) (out : List ℕ)
    → out ≡ with_arrays arrays names s.printed s.arrays → s.end ≡ serial.Finished
    → IsReported names arrays s ran record { status = Done; out = out; err = []; ran = ran }
finished-reported names arrays s ran out same end =
    subst (λ b. IsReported names arrays s ran record { status = Done; out = b; err = []; ran = ran }) (sym same) (reported _ (report_end end))

-- that of nodes
pub nodes-reported : (names : List Entry) (arrays : Bool) (s : serial.Outcome) (o : NodesOutcome) (out : List ℕ) → IsOutcome o s → s.end ≡ serial.Finished
    → out ≡ with_arrays arrays names o.printed.items (map (λ a. a.items) o.arrays.items)
    → IsReported names arrays s (Some o.ran) record { status = Done; out = out; err = []; ran = Some o.ran }
nodes-reported names arrays s o out w end is =
    finished-reported names arrays s (Some o.ran) out (is ∙ ap (λ b. with_arrays arrays names b (map (λ a. a.items) o.arrays.items)) w.printed
    ∙ ap (with_arrays arrays names s.printed) (w.arrays end)) end

-- ---- what was read

-- what a source had left, whether it tells it or not
some_had : (left : Option (List ℕ)) → (bytes : List ℕ) × Had left bytes
some_had None = ([], tt)
some_had (Some left) = (left, refl)

-- a job that reads the source, and one that doesn't
pub job-reads : (words : List (List ℕ)) (job : Job) (b : Bool) → IsCommand words job → reads_source job.action ≡ b → reads words ≡ b
job-reads words job b command is = ap some_reads command ∙ is

-- words that ask for nothing that reads the source mean their outcome whatever it has
unread-meant : (words : List (List ℕ)) (source : Port) (o : Outcome) → reads words ≡ false → ((bytes : List ℕ) → TopOutcome words bytes o) → Meant words source source o
unread-meant words source o unread is =
    let had = some_had source.bytes in
    means_outcome had.0 o had.1 (is had.0) (subst (λ b. IsRead b o.status source.bytes source.bytes had.0) (sym unread) refl)

-- words that are no job
pub usage-meant : (words : List (List ℕ)) (source : Port) → IsNoCommand words → Meant words source source (told Usage [] usage_line)
usage-meant words source no_command = unread-meant words source _ (ap some_reads no_command) (λ bytes. is_usage no_command)

-- bulk work
pub bulk-meant : (words : List (List ℕ)) (source : Port) (job : Job) (o : Outcome) → IsCommand words job → job.action ≡ Bulk → TextMeant Free (bulk_text job.size) job o
    → Meant words source source o
bulk-meant words source job o command bulk (text_outcome made is) =
    unread-meant words source made (job-reads words job false command (ap reads_source bulk)) (λ bytes. is_of_bulk job command bulk made is)
bulk-meant words source job o command bulk text_memory = means_memory_unread refl

-- a source that was read to its end had just those bytes
read_had : (left left' : Option (List ℕ)) (bytes : List ℕ) → Gave left left' bytes → IsAtEnd left' → Had left bytes
read_had None left' bytes gave end = tt
read_had (Some left) left' bytes gave end =
    let none : gave.0 ≡ [] = subst IsAtEnd gave.1 end in
    gave.2 ∙ ap (λ rest. bytes ++ rest) none ∙ append-nil bytes

-- a text's outcome comes from a source that was read to its end
read_reported : (names : List Entry) (arrays : Bool) (s : serial.Outcome) (ran : Option Ran) (o : Outcome) (left left' : Option (List ℕ)) (text : List ℕ)
    → IsReportOf names arrays s ran o → Gave left left' text → IsAtEnd left' → IsRead true o.status left left' text
read_reported names arrays s ran o left left' text (report_end is) gave end = (gave, end)
read_reported names arrays s ran o left left' text (report_fault f is) gave end = (gave, end)

read_action : (grid text : List ℕ) (arrays : Bool) (p : MainProgram) (act : Action) (o : Outcome) (left left' : Option (List ℕ)) → ActionOutcome grid arrays p act o
    → Gave left left' text → IsAtEnd left' → IsRead true o.status left left' text
read_action grid text arrays p act o left left' check_done gave end = (gave, end)
read_action grid text arrays p act o left left' map_done gave end = (gave, end)
read_action grid text arrays p act o left left' (serial_report o' report) gave end = read_reported (entries p) false (serial p) None o' left left' text report gave end
read_action grid text arrays p act o left left' (run_report o' is) gave end = read_reported (entries p) arrays (serial p) (Some is.ran) o' left left' text is.report gave end
read_action grid text arrays p act o left left' (bulk_report o' is) gave end = read_reported (entries p) arrays (serial p) (Some is.ran) o' left left' text is.report gave end
read_action grid text arrays p act o left left' (messages_report o' report) gave end = read_reported (entries p) false (listed grid p) None o' left left' text report gave end

read_whole : (form : SourceForm) (text : List ℕ) (job : Job) (o : Outcome) (left left' : Option (List ℕ)) → TextOutcome form text job o → Gave left left' text → IsAtEnd left'
    → IsRead true o.status left left' text
read_whole form text job o left left' (text_refused r is) gave end = (gave, end)
read_whole form text job o left left' (text_accepted p accepted o' made) gave end = read_action job.grid text job.arrays p job.action o' left left' made gave end

-- what the job makes of the text is what the call means
pub text-meant : (words : List (List ℕ)) (source source' : Port) (job : Job) (text : List ℕ) (o : Outcome) → IsCommand words job → reads_source job.action ≡ true
    → Gave source.bytes source'.bytes text → IsAtEnd source'.bytes → length text ≤ MAX_SOURCE_BYTES → TextMeant (form_of job) text job o → Meant words source source' o
text-meant words source source' job text o command reading gave end short (text_outcome made is) =
    means_outcome text o (read_had source.bytes source'.bytes text gave end) (is_of_text job command reading short o is)
    (subst (λ b. IsRead b o.status source.bytes source'.bytes text) (sym (job-reads words job true command reading))
    (read_whole (form_of job) text job o source.bytes source'.bytes is gave end))
text-meant words source source' job text o command reading gave end short text_memory =
    means_memory (job-reads words job true command reading) text short gave

-- a source of which a byte past the limit was taken
pub too_long-meant : (words : List (List ℕ)) (source source' : Port) (job : Job) (taken : List ℕ) → IsCommand words job → reads_source job.action ≡ true
    → length taken ≡ MAX_SOURCE_BYTES + 1 → Gave source.bytes source'.bytes taken
    → Meant words source source' (told TooLong [] too_long_line)
too_long-meant words source source' job taken command reading long gave = cases source.bytes gave
  where
    read_so : (left : Option (List ℕ)) (bytes : List ℕ) → IsRead true TooLong left source'.bytes bytes → IsRead (reads words) TooLong left source'.bytes bytes
    read_so left bytes is = subst (λ b. IsRead b TooLong left source'.bytes bytes) (sym (job-reads words job true command reading)) is

    cases : (left : Option (List ℕ)) → Gave left source'.bytes taken
        → Meant words (port left source.faults) source' (told TooLong [] too_long_line)
    cases None given =
        means_outcome taken _ tt (is_too_long job command reading (omega arith)) (read_so None taken given)
    cases (Some left) given =
        let count : length left ≡ length taken + length given.0 = ap length given.2 ∙ length-append taken given.0 in
        let front : take (MAX_SOURCE_BYTES + 1) left ≡ taken = ap (take (MAX_SOURCE_BYTES + 1)) given.2 ∙ take_at taken given.0 (MAX_SOURCE_BYTES + 1) long in
        means_outcome left _ refl (is_too_long job command reading (omega arith)) (read_so (Some left) left (given.0, given.1, given.2 ∙ ap (λ l. l ++ given.0) (sym front)))

-- a job that waits for nobody reads the source
pub alone-reads : (act : Action) → runs_on_nodes act ≡ false → reads_source act ≡ true
alone-reads Run alone = cc
alone-reads Bulk alone = cc
alone-reads Serial alone = refl
alone-reads Check alone = refl
alone-reads Map alone = refl
alone-reads Messages alone = refl

-- ---- what is delivered

-- from what the writes of texts that are equal to an outcome's answer
pub delivered-out : (o : Outcome) (out out' err : Port) (text : List ℕ) → text ≡ o.out → Rose out.faults out'.faults
    → (n : ℕ) × (n < length text) × AreAppended out.bytes out'.bytes (take n text) → Delivered o out out' err err WriteFault None
delivered-out o out out' err text is rose prefix =
    let short : prefix.0 < length o.out = subst (λ t. prefix.0 < length t) is prefix.1 in
    out_failed rose prefix.0 short (subst (λ t. AreAppended out.bytes out'.bytes (take prefix.0 t)) is prefix.2) refl

pub delivered-err : (o : Outcome) (out out' err err' : Port) (text line : List ℕ) → text ≡ o.out → line ≡ o.err → AreAppended out.bytes out'.bytes text
    → Rose err.faults err'.faults → (n : ℕ) × (n < length line) × AreAppended err.bytes err'.bytes (take n line) → Delivered o out out' err err' WriteFault None
delivered-err o out out' err err' text line text_is line_is took rose prefix =
    let short : prefix.0 < length o.err = subst (λ t. prefix.0 < length t) line_is prefix.1 in
    err_failed rose (subst (AreAppended out.bytes out'.bytes) text_is took) prefix.0 short (subst (λ t. AreAppended err.bytes err'.bytes (take prefix.0 t)) line_is prefix.2)

pub delivered-all : (o : Outcome) (out out' err err' : Port) (text line : List ℕ) (status : Status) (ran : Option Ran) → text ≡ o.out → line ≡ o.err
    → status ≡ o.status → ran ≡ o.ran → AreAppended out.bytes out'.bytes text → AreAppended err.bytes err'.bytes line → Delivered o out out' err err' status ran
delivered-all o out out' err err' text line status ran text_is line_is status_is ran_is took_text took_line =
    subst (λ (a : Status × Option Ran). Delivered o out out' err err' a.0 a.1) (λ t. (sym status_is t, sym ran_is t))
    (all_written (subst (AreAppended out.bytes out'.bytes) text_is took_text) (subst (AreAppended err.bytes err'.bytes) line_is took_line))

-- ---- what waits for nobody leaves no run

reported-alone : (names : List Entry) (arrays : Bool) (s : serial.Outcome) (o : Outcome) → IsReportOf names arrays s None o → o.ran ≡ None
reported-alone names arrays s o (report_end is) = refl
reported-alone names arrays s o (report_fault f is) = refl

action-alone : (grid : List ℕ) (arrays : Bool) (p : MainProgram) (act : Action) (o : Outcome) → runs_on_nodes act ≡ false → ActionOutcome grid arrays p act o → o.ran ≡ None
action-alone grid arrays p act o alone check_done = refl
action-alone grid arrays p act o alone map_done = refl
action-alone grid arrays p act o alone (serial_report o' is) = reported-alone (entries p) false (serial p) o' is
action-alone grid arrays p act o alone (run_report o' is) = cc
action-alone grid arrays p act o alone (bulk_report o' is) = cc
action-alone grid arrays p act o alone (messages_report o' is) = reported-alone (entries p) false (listed grid p) o' is

text-alone : (form : SourceForm) (text : List ℕ) (job : Job) (o : Outcome) → runs_on_nodes job.action ≡ false → TextOutcome form text job o → o.ran ≡ None
text-alone form text job o alone (text_refused r is) = refl
text-alone form text job o alone (text_accepted p is o' made) = action-alone job.grid job.arrays p job.action o' alone made

same : (words : List (List ℕ)) (job job' : Job) → IsCommand words job → IsCommand words job' → runs_on_nodes job.action ≡ false → runs_on_nodes job'.action ≡ false
same words job job' command command' alone = subst (λ (j : Job). runs_on_nodes j.action ≡ false) (same_Some job job' (sym command ∙ command')) alone

top-alone : (words : List (List ℕ)) (bytes : List ℕ) (job : Job) (o : Outcome) → IsCommand words job → runs_on_nodes job.action ≡ false → TopOutcome words bytes o
    → o.ran ≡ None
top-alone words bytes job o command alone (is_usage none) = refl
top-alone words bytes job o command alone (is_of_bulk job' command' bulk o' is) = text-alone Free (bulk_text job'.size) job' o' (same words job job' command command' alone) is
top-alone words bytes job o command alone (is_too_long job' command' reading long) = refl
top-alone words bytes job o command alone (is_of_text job' command' reading short o' is) = text-alone (form_of job') bytes job' o' (same words job job' command command' alone) is

alone-ran : (words : List (List ℕ)) (source source' : Port) (job : Job) (o : Outcome) → IsCommand words job → runs_on_nodes job.action ≡ false
    → Meant words source source' o → o.ran ≡ None
alone-ran words source source' job o command alone (means_outcome bytes o' had is read) = top-alone words bytes job o' command alone is
alone-ran words source source' job o command alone (means_read_fault reading rose taken short gave) = refl
alone-ran words source source' job o command alone (means_memory reading taken short gave) = refl
alone-ran words source source' job o command alone (means_memory_unread same) = refl

-- what is delivered of an outcome without a run has none
delivered-alone : (o : Outcome) (out out' err err' : Port) (status : Status) (ran : Option Ran) → o.ran ≡ None → Delivered o out out' err err' status ran → ran ≡ None
delivered-alone o out out' err err' status ran none (all_written one other) = none
delivered-alone o out out' err err' status ran none (out_failed rose n short took rest) = refl
delivered-alone o out out' err err' status ran none (err_failed rose took n short part) = refl

-- what a job that waits for nobody is answered by
pub alone-answer : (words : List (List ℕ)) (source source' out out' err err' : Port) (job : Job) (o : Outcome) (answer : Answer) → IsCommand words job
    → runs_on_nodes job.action ≡ false → Meant words source source' o → Delivered o out out' err err' answer.status answer.ran
    → IsAnswer words source source' out out' err err' (record { status = answer.status; ran = None })
alone-answer words source source' out out' err err' job o answer command alone meant delivered =
    let none : answer.ran ≡ None =
    delivered-alone o out out' err err' answer.status answer.ran (alone-ran words source source' job o command alone meant) delivered in
    record { outcome = o; meant = meant; delivered = subst (λ r. Delivered o out out' err err' answer.status r) none delivered }
