-- Of the claim.
-- The words that the program is called with.
use Rattle.std.specs.Prelude.{◌≡◌, Bool, true, false, if◌then◌else◌, List, Option, Some, None}
use Rattle.hpf_words.specs.Parts.{Text}
use Rattle.hpf_words.specs.Jobs.{job_of}
use Rattle.hpf_words.specs.declared.job.Action.{Action}
use Rattle.hpf_words.specs.declared.job.Action.TheVariants.{Run, Bulk}
use Rattle.hpf_words.specs.declared.job.Job.{Job}
use Rattle.hpf_reader.specs.declared.source_form.SourceForm.{SourceForm}
use Rattle.hpf_reader.specs.declared.source_form.SourceForm.TheVariants.{Fixed, Free}

-- the words are this job
abbrev pub IsCommand : List Text → Job → Type 0
IsCommand words job = job_of words ≡ Some job

-- the words are no job
abbrev pub IsNoCommand : List Text → Type 0
IsNoCommand words = job_of words ≡ None

-- the source form in which a job has its text
abbrev pub form_of : Job → SourceForm
form_of job = if job.fixed then Fixed else Free

-- the actions that run on nodes
abbrev pub runs_on_nodes : Action → Bool
runs_on_nodes Run = true
runs_on_nodes Bulk = true
runs_on_nodes _ = false

-- the actions that read the source; bulk work has a text of its own
abbrev pub reads_source : Action → Bool
reads_source Bulk = false
reads_source _ = true

abbrev pub some_reads : Option Job → Bool
some_reads None = false
some_reads (Some job) = reads_source job.action

-- the words ask for what reads the source; words that are no job, and bulk work, don't
abbrev pub reads : List Text → Bool
reads words = some_reads (job_of words)
