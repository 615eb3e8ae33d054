-- Of the claim.
-- The job that the words are.
use Rattle.std.specs.Prelude.{ℕ, Bool, true, false, not, ◌&&◌, ◌||◌, ◌==◌, if◌then◌else◌, List, [], ◌∷◌, Option, Some, None, codes}
use Rattle.std.specs.Prelude.{option_map, option_and_then, find, nat_le, length, is_some}
use Rattle.std.specs.List.{list_any, slice_split}
use Rattle.std.specs.Str.{bytes_eq, all_ascii_digits}
use Rattle.std.specs.Str.Parse.{digits_value}
use Rattle.hpf_base.specs.ElementOrder.{product}
use Rattle.hpf_base.specs.declared.limits.TheConstants.{MAX_NODES, MAX_RANK}
use Rattle.hpf_words.specs.Parts.{Text, Field, value_of, flag, action, grid, threads, size, arrays, fixed, name_of, Part, parts_of}
use Rattle.hpf_words.specs.declared.job.Action.{Action}
use Rattle.hpf_words.specs.declared.job.Job.{Job}
use Rattle.hpf_words.specs.declared.job.Action.TheVariants.{Run, Serial, Check, Map, Messages, Bulk}

-- ---- what is given

abbrev pub same : Field → Field → Bool
same f g = bytes_eq (name_of g) (name_of f)

abbrev pub is_given : Field → List Part → Bool
is_given f ps = list_any (λ p. same f p.0) ps

-- no option stands twice, and at most one word is positional
abbrev pub is_once : List Part → Bool
is_once [] = true
is_once (p ∷ ps) = not (is_given p.0 ps) && is_once ps

abbrev pub text_of : Field → List Part → Option Text
text_of f ps = option_map (λ p. p.1) (find (λ p. same f p.0) ps)

-- ---- what the texts say

abbrev pub action_of : Text → Option Action
action_of word = if bytes_eq word (codes "run") then Some Run
    else (if bytes_eq word (codes "serial") then Some Serial
    else (if bytes_eq word (codes "check") then Some Check
    else (if bytes_eq word (codes "map") then Some Map
    else (if bytes_eq word (codes "messages") then Some Messages
    else (if bytes_eq word (codes "bulk") then Some Bulk else None)))))

-- one digit or more, and no more than so many
abbrev pub has_digits : ℕ → Text → Bool
has_digits most text = nat_le 1 (length text) && (nat_le (length text) most && all_ascii_digits text)

abbrev pub between : ℕ → ℕ → ℕ → Option ℕ
between least greatest n = if nat_le least n && nat_le n greatest then Some n else None

-- the number that at most so many digits stand for, where it lies between two bounds
abbrev pub number_of : ℕ → ℕ → ℕ → Text → Option ℕ
number_of digits least greatest text = if has_digits digits text then between least greatest (digits_value 10 text) else None

-- all the extents, where each text is one
abbrev pub extents_of : List Text → Option (List ℕ)
extents_of [] = Some []
extents_of (text ∷ texts) = option_and_then (λ n. option_map (λ ns. n ∷ ns) (extents_of texts)) (number_of 2 1 MAX_NODES text)

abbrev pub is_x : ℕ → Bool
is_x b = b == 120

-- of at most 7 dimensions, and of at most 64 nodes together
abbrev pub is_small : List ℕ → Bool
is_small extents = nat_le (length extents) MAX_RANK && nat_le (product extents) MAX_NODES

-- extents joined by `x`
abbrev pub grid_of : Text → Option (List ℕ)
grid_of text = option_and_then (λ ns. if is_small ns then Some ns else None) (extents_of (slice_split is_x text))

abbrev pub threads_of : Text → Option ℕ
threads_of = number_of 2 1 64

abbrev pub size_of : Text → Option ℕ
size_of = number_of 3 8 512

-- ---- the job

abbrev pub takes_threads : Action → Bool
takes_threads Run = true
takes_threads Bulk = true
takes_threads _ = false

abbrev pub takes_size : Action → Bool
takes_size Bulk = true
takes_size _ = false

abbrev pub takes_arrays : Action → Bool
takes_arrays Run = true
takes_arrays _ = false

-- every action that reads a source
abbrev pub takes_fixed : Action → Bool
takes_fixed Bulk = false
takes_fixed _ = true

-- each option that is given is allowed with the action
abbrev pub is_allowed : Action → Bool → Bool → Bool → Bool → Bool
is_allowed act some_threads some_size some_arrays some_fixed = (not some_threads || takes_threads act)
    && ((not some_size || takes_size act) && ((not some_arrays || takes_arrays act) && (not some_fixed || takes_fixed act)))

-- what an option's text says, or the default where the option isn't given
abbrev pub or_default : {X : Type 0} → (Text → Option X) → X → Option Text → Option X
or_default read default None = Some default
or_default read default (Some text) = read text

-- the job by its texts: the action, the grid, the threads, the size, and whether `--arrays` and whether `--fixed` stands
abbrev pub job_by : Option Text → Option Text → Option Text → Option Text → Bool → Bool → Option Job
job_by word g t n some_arrays some_fixed =
    option_and_then (λ act. option_and_then (λ extents. option_and_then (λ crews. option_and_then (λ order.
    if is_allowed act (is_some t) (is_some n) some_arrays some_fixed
    then Some (record { action = act; grid = extents; threads = crews; size = order; arrays = some_arrays; fixed = some_fixed })
    else None)
    (or_default size_of 64 n))
    (or_default threads_of (product extents) t))
    (or_default grid_of (1 ∷ []) g))
    (option_and_then action_of word)

abbrev pub job_in : List Part → Option Job
job_in ps = if is_once ps
    then job_by (text_of action ps) (text_of (value_of grid) ps) (text_of (value_of threads) ps) (text_of (value_of size) ps) (is_given (flag arrays) ps) (is_given (flag fixed) ps)
    else None

-- the job that the words are; None where they are none
abbrev pub job_of : List Text → Option Job
job_of words = option_and_then job_in (parts_of words)
