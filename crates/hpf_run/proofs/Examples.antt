-- What words ask for beside their job (docs/LANGUAGE.md, "Running a program"), and lines of the program of bulk work.
use Rattle.std.specs.Prelude.{◌≡◌, refl, codes, Bool, true, false, List, [], ◌∷◌, take, drop, Option, Some, None, option_map}
use Rattle.std.specs.Fmt.{digits}
use Rattle.hpf_base.specs.Text.{lines_of}
use Rattle.hpf_words.specs.Parts.{Text}
use Rattle.hpf_words.specs.Jobs.{job_of}
use Rattle.hpf_reader.specs.declared.source_form.SourceForm.{SourceForm}
use Rattle.hpf_reader.specs.declared.source_form.SourceForm.TheVariants.{Fixed, Free}
use Rattle.hpf_run.specs.BulkText.{bulk_text}
use Rattle.hpf_run.specs.Command.{form_of, reads, runs_on_nodes}

-- ---- words

abbrev form_by : List Text → Option SourceForm
form_by words = option_map form_of (job_of words)

abbrev is_on_nodes : List Text → Option Bool
is_on_nodes words = option_map (λ job. runs_on_nodes job.action) (job_of words)

-- the text is in free form but under `--fixed`
free : form_by (codes "run" ∷ []) ≡ Some Free
free = refl

fixed : form_by (codes "check" ∷ codes "--fixed" ∷ []) ≡ Some Fixed
fixed = refl

no_job : form_by (codes "bulk" ∷ codes "--fixed" ∷ []) ≡ None
no_job = refl

-- each action but `bulk` reads the source, and words that are no job don't
check_reads : reads (codes "check" ∷ []) ≡ true
check_reads = refl

bulk_reads : reads (codes "bulk" ∷ []) ≡ false
bulk_reads = refl

no_job_reads : reads (codes "check" ∷ codes "--arrays" ∷ []) ≡ false
no_job_reads = refl

-- `run` and `bulk` run on nodes
run_on_nodes : is_on_nodes (codes "run" ∷ []) ≡ Some true
run_on_nodes = refl

bulk_on_nodes : is_on_nodes (codes "bulk" ∷ []) ≡ Some true
bulk_on_nodes = refl

serial_on_nodes : is_on_nodes (codes "serial" ∷ []) ≡ Some false
serial_on_nodes = refl

messages_on_nodes : is_on_nodes (codes "messages" ∷ []) ≡ Some false
messages_on_nodes = refl

-- ---- the program of bulk work

-- the size stands in the second of its 27 lines, and the last one ends the program
first_lines : take 2 (lines_of (bulk_text 8)) ≡ codes "PROGRAM BULK" ∷ codes "INTEGER, PARAMETER :: N = 8" ∷ []
unfolding digits
first_lines = refl

greatest_size : take 1 (drop 1 (lines_of (bulk_text 512))) ≡ codes "INTEGER, PARAMETER :: N = 512" ∷ []
unfolding digits
greatest_size = refl

last_line : drop 26 (lines_of (bulk_text 8)) ≡ codes "END PROGRAM BULK" ∷ []
unfolding digits
last_line = refl
