use Rattle.std.proofs.Common.{ap, sym, subst, ◌≡◌, ◌∙◌, inl, inr, Some, Option, Bool, true, false, true≢false, map, string_bytes, codes, List, []}
use Rattle.std.specs.Prelude.{if◌then◌else◌}
use Rattle.clap.specs.Words.{app_of, first_of, found_of, one_text, one_of, kind_of, matches_of, is_simple, rows_of, Text}
use Rattle.clap.specs.Kinds.{IsAmong}
use Rattle.clap.specs.Faults.{fault_of, is_simple_and_free}
use Rattle.clap.proofs.WalkLemmas.{first_value-rows, one_text-rows}
use Rattle.hpf_words.specs.Jobs.{job_by}
use Rattle.hpf_words.specs.Parts.{Flag, value_of, flag, action, grid, threads, size, arrays, fixed, name_of}
use Rattle.hpf_words.specs.Command.{hpf_app}
use Rattle.hpf_words.specs.declared.job.WordsError.{WordsError}
use Rattle.hpf_words.specs.declared.job.WordsError.TheVariants.{Usage, Memory}
use Rattle.hpf_words.proofs.Rules.{is_free}
use Rattle.hpf_words.proofs.Exact.{taken, refused}
use Rattle.hpf_words.proofs.texts.texts_of.Goals as goal

abbrev is_usage : WordsError → Bool
is_usage Usage = true
is_usage Memory = false

-- the flag is what its text says
stored : (b : Bool) {o : Option Text} {r : Bool} → (o ≡ Some (codes "true") → r ≡ true) → (o ≡ Some (codes "false") → r ≡ false)
    → o ≡ Some (if b then codes "true" else codes "false") → r ≡ b
stored true value other e = value e
stored false value other e = other e

pub returns-in-Err-try_get_matches_from-clause-err :
    goal.returns-in-Err-try_get_matches_from-clause-err
returns-in-Err-try_get_matches_from-clause-err c usage =
    let app : app_of c.in-Ok.command ≡ hpf_app = c.in-Ok.ensures in
    let words : List Text = map string_bytes c.args.words.now in
    elim (c.in-Err-try_get_matches_from.ensures.kinds (ap is_simple_and_free app ∙ is_free)) [
      | inl memory ↦ absurd (true≢false (ap is_usage (sym usage ∙ c.error_of.ensures.0 (c.kind.ensures ∙ memory))))
      | inr among ↦ refused words (λ none. subst (IsAmong (kind_of c.in-Err-try_get_matches_from.error)) (ap (λ a. fault_of a words) app ∙ none) among)
    ]

pub returns-clause-ok : goal.returns-clause-ok
returns-clause-ok c =
    let app : app_of c.in-Ok.command ≡ hpf_app = c.in-Ok.ensures in
    let words : List Text = map string_bytes c.args.words.now in
    let m = found_of c.in-Ok-try_get_matches_from.matches in
    let none : fault_of hpf_app words ≡ [] = ap (λ a. fault_of a words) (sym app) ∙ c.in-Ok-try_get_matches_from.ensures.kinds (ap is_simple_and_free app ∙ is_free) in
    let all : rows_of m ≡ matches_of hpf_app words = (c.in-Ok-try_get_matches_from.ensures.matches (ap is_simple app)).0 ∙ ap (λ a. matches_of a words) app in
    let t = taken words none in
    let a = c.get_str.ensures ∙ first_value-rows m (name_of action) ∙ ap (first_of (name_of action)) all in
    let g = c.get_str-2.ensures ∙ first_value-rows m (name_of (value_of grid)) ∙ ap (first_of (name_of (value_of grid))) all in
    let n = c.get_str-3.ensures ∙ first_value-rows m (name_of (value_of threads)) ∙ ap (first_of (name_of (value_of threads))) all in
    let s = c.get_str-4.ensures ∙ first_value-rows m (name_of (value_of size)) ∙ ap (first_of (name_of (value_of size))) all in
    let text : (f : Flag) → one_text m (name_of (flag f)) ≡ Some (if t.0 f then codes "true" else codes "false") =
    λ f. one_text-rows m (name_of (flag f)) ∙ ap (one_of (name_of (flag f))) all ∙ t.1 f in
    let r = stored (t.0 arrays) c.get_flag.ensures.value c.get_flag.ensures.other (text arrays) in
    let f = stored (t.0 fixed) c.get_flag-2.ensures.value c.get_flag-2.ensures.other (text fixed) in
    t.2 ∙ (λ i. job_by (sym a i) (sym g i) (sym n i) (sym s i) (sym r i) (sym f i))
