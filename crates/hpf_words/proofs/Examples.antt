-- Words of a command line with the job that they are, by the rules of docs/LANGUAGE.md, "Running a program": each option once with its value in either
-- place, what stands where it isn't given, and words that break one rule.
use Rattle.std.specs.Prelude.{◌≡◌, refl, codes, true, false, [], ◌∷◌, Some, None}
use Rattle.hpf_words.specs.Jobs.{job_of}
use Rattle.hpf_words.specs.declared.job.Action.TheVariants.{Run, Serial, Check, Bulk}

-- ACTION alone
alone : job_of (codes "check" ∷ []) ≡ Some (record { action = Check; grid = 1 ∷ []; threads = 1; size = 64; arrays = false; fixed = false })
alone = refl

-- what `run` takes. There are as many threads as nodes where none are given
of_run : job_of (codes "run" ∷ codes "--grid=2x3" ∷ codes "--threads" ∷ codes "4" ∷ codes "--arrays" ∷ codes "--fixed" ∷ [])
    ≡ Some (record { action = Run; grid = 2 ∷ 3 ∷ []; threads = 4; size = 64; arrays = true; fixed = true })
of_run = refl

without_threads : job_of (codes "--grid" ∷ codes "2x3" ∷ codes "run" ∷ [])
    ≡ Some (record { action = Run; grid = 2 ∷ 3 ∷ []; threads = 6; size = 64; arrays = false; fixed = false })
without_threads = refl

-- what `bulk` takes, at the greatest values and one past them
of_bulk : job_of (codes "bulk" ∷ codes "--size=512" ∷ codes "--threads=64" ∷ codes "--grid=8x8" ∷ [])
    ≡ Some (record { action = Bulk; grid = 8 ∷ 8 ∷ []; threads = 64; size = 512; arrays = false; fixed = false })
of_bulk = refl

great_size : job_of (codes "bulk" ∷ codes "--size=513" ∷ []) ≡ None
great_size = refl

many_threads : job_of (codes "bulk" ∷ codes "--threads=65" ∷ []) ≡ None
many_threads = refl

many_nodes : job_of (codes "bulk" ∷ codes "--grid=8x9" ∷ []) ≡ None
many_nodes = refl

small_size : job_of (codes "bulk" ∷ codes "--size" ∷ codes "7" ∷ []) ≡ None
small_size = refl

-- after `--` each word is the action, though it begins with `-`
after_dashes : job_of (codes "--fixed" ∷ codes "--" ∷ codes "serial" ∷ [])
    ≡ Some (record { action = Serial; grid = 1 ∷ []; threads = 1; size = 64; arrays = false; fixed = true })
after_dashes = refl

option_after_dashes : job_of (codes "serial" ∷ codes "--" ∷ codes "--fixed" ∷ []) ≡ None
option_after_dashes = refl

-- an option twice, without its value, with one that it doesn't take, and with an action that doesn't take it
twice : job_of (codes "run" ∷ codes "--grid=4" ∷ codes "--grid=4" ∷ []) ≡ None
twice = refl

without_value : job_of (codes "run" ∷ codes "--grid" ∷ []) ≡ None
without_value = refl

with_value : job_of (codes "run" ∷ codes "--arrays=1" ∷ []) ≡ None
with_value = refl

not_of_serial : job_of (codes "serial" ∷ codes "--arrays" ∷ []) ≡ None
not_of_serial = refl

not_of_run : job_of (codes "run" ∷ codes "--size=64" ∷ []) ≡ None
not_of_run = refl

not_of_check : job_of (codes "check" ∷ codes "--threads=1" ∷ []) ≡ None
not_of_check = refl

not_of_bulk : job_of (codes "bulk" ∷ codes "--fixed" ∷ []) ≡ None
not_of_bulk = refl

-- no action, two, and one that isn't there
no_words : job_of [] ≡ None
no_words = refl

two_actions : job_of (codes "run" ∷ codes "serial" ∷ []) ≡ None
two_actions = refl

unknown : job_of (codes "print" ∷ []) ≡ None
unknown = refl
