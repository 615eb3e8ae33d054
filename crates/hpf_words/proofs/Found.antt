-- What the walk over the words comes to, and what is found in the matches.
use Rattle.std.proofs.Common.{ap, refl, sym, cond, Bool, true, false, true≢false, Option, Some, None, List, [], ◌∷◌, ◌≡◌, ◌∙◌, codes, option_map, map, ◌⊎◌, inl, inr}
use Rattle.std.specs.Prelude.{if◌then◌else◌, is_some, slice_get, fold, find, option_and_then, ◌||◌}
use Rattle.std.specs.Option.{option_or}
use Rattle.std.specs.Str.{bytes_eq}
use Rattle.std.proofs.lemmas.Bool.{or_from, or_left, or_right}
use Rattle.std.proofs.lemmas.Option.{none-some}
use Rattle.std.proofs.lemmas.List.Folds.{find-append}
use Rattle.clap.proofs.WalkLemmas.{find-map}
use Rattle.clap.specs.Walk.{Row, Walk, idle, has_row, settled_rows, with_default, first_of, one_of, row_text, walk, nothing_held, more_values}
use Rattle.clap.specs.Simple.{entered, built, matches_of}
use Rattle.clap.specs.Faults.{fault_of, walk_fault, settle_fault, defaults_fault, check_fault, entered_fault}
use Rattle.clap.specs.Kinds.{Kinds, or_else}
use Rattle.clap.specs.declared.parser.matches.ValueSource.TheVariants.{DefaultValue}
use Rattle.clap.specs.declared.builder.value_parser.Reading.TheVariants.{AsWritten}
use Rattle.hpf_words.specs.Command.{hpf_app}
use Rattle.hpf_words.specs.Parts.{Text, Part, Field, Flag, value_of, flag, action, arrays, fixed, name_of}
use Rattle.hpf_words.specs.Jobs.{is_given, same, text_of}
use Rattle.hpf_words.proofs.Rules.{rule, fields, R, S, defaults_pass}
use Rattle.hpf_words.proofs.Given.{same_is}
use Rattle.hpf_words.proofs.Steps.{row, row_text_of, rows, appended}
use Rattle.hpf_words.proofs.Words.{held, at, walk_end, total, or_nil}

-- ---- the faults of a parse are those of the walk over the words

level : (stop : Option (Text × List Text)) (walked settle defaults : Kinds) (rs : List Row) → defaults ≡ []
    → or_else walked (or_else (entered_fault (built hpf_app) stop) (or_else settle (or_else defaults (check_fault S rs (is_some (entered (built hpf_app) stop))))))
    ≡ or_else walked settle
level None walked settle defaults rs none = ap (λ k. or_else walked (or_else settle (or_else k []))) none ∙ ap (or_else walked) (or_nil settle)
level (Some p) walked settle defaults rs none = ap (λ k. or_else walked (or_else settle (or_else k []))) none ∙ ap (or_else walked) (or_nil settle)

abbrev pub start : Walk
start = at (held [] None) idle false 1

abbrev pub rows_left : List Text → List Row
rows_left words = settled_rows R (walk_end start words).pending (walk_end start words).rows

abbrev pub all_rows : List Row → List Row
all_rows rs = fold with_default rs R

pub fault_is : (words : List Text) → fault_of hpf_app words ≡ total start words
fault_is words = level (walk R [] nothing_held words).stopped (walk_fault S [] start words) (settle_fault R false (walk_end start words))
    (defaults_fault (rows_left words) R) (all_rows (rows_left words)) (defaults_pass fields (rows_left words))

pub matches_are : (words : List Text) → matches_of hpf_app words ≡ all_rows (rows_left words)
matches_are words = refl

-- ---- the rows of a field, of the words and of the defaults

abbrev pub row_of : Field → List Row → Option Row
row_of f rs = find (λ r. bytes_eq r.id (name_of f)) rs

-- the row of a flag that isn't given
abbrev pub absent : Flag → Row
absent g = record { id = name_of (flag g); values = codes "false" ∷ []; count = None; source = Some DefaultValue; reading = AsWritten }

-- the row that the defaults of these fields have for a field
abbrev pub default_in : Field → List Field → Option Row
default_in f [] = None
default_in f (flag g ∷ fs) = if same f (flag g) then Some (absent g) else default_in f fs
default_in f (_ ∷ fs) = default_in f fs

same_rows : (b : Bool) (rs : List Row) → cond b rs rs ≡ rs
same_rows true rs = refl
same_rows false rs = refl

has_some : (f : Field) (rs : List Row) (o : Option Row) → has_row (name_of f) rs ≡ true → option_or (row_of f rs) o ≡ row_of f rs
has_some f [] o some = absurd (true≢false (sym some))
has_some f (r ∷ rs) o some = go (bytes_eq r.id (name_of f)) some (has_some f rs o)
  where
    go : (b : Bool) → (b || has_row (name_of f) rs) ≡ true → (has_row (name_of f) rs ≡ true → option_or (row_of f rs) o ≡ row_of f rs)
        → option_or (cond b (Some r) (row_of f rs)) o ≡ cond b (Some r) (row_of f rs)
    go true e below = refl
    go false e below = below e

or_none : (o : Option Row) → option_or o None ≡ o
or_none None = refl
or_none (Some r) = refl

or_assoc : (o p q : Option Row) → option_or (option_or o p) q ≡ option_or o (option_or p q)
or_assoc None p q = refl
or_assoc (Some r) p q = refl

-- what the default of a flag adds
default_adds : (f : Field) (g : Flag) (rs : List Row) → row_of f (with_default rs (rule (flag g))) ≡ option_or (row_of f rs) (if same f (flag g) then Some (absent g) else None)
default_adds f g rs = go (has_row (name_of (flag g)) rs) refl
  where
    had : (b : Bool) → same f (flag g) ≡ b → has_row (name_of (flag g)) rs ≡ true → row_of f rs ≡ option_or (row_of f rs) (if b then Some (absent g) else None)
    had true is some = sym (has_some f rs (Some (absent g)) (ap (λ h. has_row (name_of h) rs) (same_is f (flag g) is) ∙ some))
    had false is some = sym (or_none (row_of f rs))

    go : (b : Bool) → has_row (name_of (flag g)) rs ≡ b → row_of f (with_default rs (rule (flag g))) ≡ option_or (row_of f rs) (if same f (flag g) then Some (absent g) else None)
    go true some = rw some (had (same f (flag g)) refl some)
    go false none = rw none (ap (row_of f) (appended (name_of (flag g)) (more_values DefaultValue (codes "false" ∷ [])) (absent g ∷ []) rs none)
        ∙ find-append (λ r. bytes_eq r.id (name_of f)) rs (absent g ∷ []))

defaults_add : (f : Field) (fs : List Field) (rs : List Row) → row_of f (fold with_default rs (map rule fs)) ≡ option_or (row_of f rs) (default_in f fs)
defaults_add f [] rs = sym (or_none (row_of f rs))
defaults_add f (value_of v ∷ fs) rs =
    ap (λ qs. row_of f (fold with_default qs (map rule fs))) (same_rows (has_row (name_of (value_of v)) rs) rs) ∙ defaults_add f fs rs
defaults_add f (action ∷ fs) rs = ap (λ qs. row_of f (fold with_default qs (map rule fs))) (same_rows (has_row (name_of action) rs) rs) ∙ defaults_add f fs rs
defaults_add f (flag g ∷ fs) rs =
    defaults_add f fs (with_default rs (rule (flag g))) ∙ ap (λ o. option_or o (default_in f fs)) (default_adds f g rs)
    ∙ or_assoc (row_of f rs) (if same f (flag g) then Some (absent g) else None) (default_in f fs) ∙ ap (option_or (row_of f rs)) (go (same f (flag g)))
  where
    go : (b : Bool) → option_or (if b then Some (absent g) else None) (default_in f fs) ≡ (if b then Some (absent g) else default_in f fs)
    go true = refl
    go false = refl

row_found : (f : Field) (ps : List Part) → row_of f (all_rows (rows ps)) ≡ option_or (option_map row (find (λ p. same f p.0) ps)) (default_in f fields)
row_found f ps = defaults_add f fields (rows ps) ∙ ap (λ o. option_or o (default_in f fields)) (sym (find-map (λ r. bytes_eq r.id (name_of f)) row ps))

-- ---- what is found

abbrev IsFound : Field → List Part → Type 0
IsFound f ps = ((find (λ p. same f p.0) ps ≡ None) × (is_given f ps ≡ false)) ⊎ ((t : Text) × (find (λ p. same f p.0) ps ≡ Some (f, t)) × (is_given f ps ≡ true))

found_part : (f : Field) (ps : List Part) → IsFound f ps
found_part f [] = inl (refl, refl)
found_part f (p ∷ ps) = go (same f p.0) refl (found_part f ps)
  where
    first : (b : Bool) → same f p.0 ≡ b → find (λ q. same f q.0) (p ∷ ps) ≡ (if b then Some p else find (λ q. same f q.0) ps)
    first b is = ap (λ c. if c then Some p else find (λ q. same f q.0) ps) is

    go : (b : Bool) → same f p.0 ≡ b → IsFound f ps → IsFound f (p ∷ ps)
    go true is below = inr (p.1, first true is ∙ ap (λ h. Some (h, p.1)) (sym (same_is f p.0 is)), or_left (same f p.0) _ is)
    go false is (inl x) = inl (first false is ∙ x.0, or_from (same f p.0) _ is x.1)
    go false is (inr x) = inr (x.0, first false is ∙ x.1, or_right (same f p.0) _ x.2)

pub given_text : (f : Field) (t : Text) (ps : List Part) → text_of f ps ≡ Some t → is_given f ps ≡ true
given_text f t ps e = go (found_part f ps)
  where
    go : IsFound f ps → is_given f ps ≡ true
    go (inl x) = absurd (none-some t (sym (ap (option_map (λ p. p.1)) x.0) ∙ e))
    go (inr x) = x.2

-- a flag has no text
abbrev pub has_text : Field → Bool
has_text (flag g) = false
has_text _ = true

kept : (f : Field) (t : Text) → has_text f ≡ true → row_text_of f t ≡ t
kept (value_of v) t h = refl
kept action t h = refl
kept (flag g) t h = absurd (true≢false (sym h))

pub text_found : (f : Field) (ps : List Part) → has_text f ≡ true → default_in f fields ≡ None → first_of (name_of f) (all_rows (rows ps)) ≡ text_of f ps
text_found f ps has none = ap (option_and_then (λ (r : Row). slice_get r.values 0)) (row_found f ps ∙ ap (option_or (option_map row (find (λ p. same f p.0) ps))) none) ∙ go (found_part f ps)
  where
    go : IsFound f ps → option_and_then (λ (r : Row). slice_get r.values 0) (option_or (option_map row (find (λ p. same f p.0) ps)) None) ≡ text_of f ps
    go (inl x) = rw x.0 refl
    go (inr x) = rw x.1 (ap Some (kept f x.0 has))

absent_in : (g : Flag) → default_in (flag g) fields ≡ Some (absent g)
absent_in arrays = refl
absent_in fixed = refl

pub flag_found : (g : Flag) (ps : List Part) → one_of (name_of (flag g)) (all_rows (rows ps)) ≡ Some (if is_given (flag g) ps then codes "true" else codes "false")
flag_found g ps = ap (option_and_then row_text) (row_found (flag g) ps ∙ ap (option_or (option_map row (find (λ p. same (flag g) p.0) ps))) (absent_in g)) ∙ go (found_part (flag g) ps)
  where
    go : IsFound (flag g) ps → option_and_then row_text (option_or (option_map row (find (λ p. same (flag g) p.0) ps)) (Some (absent g)))
        ≡ Some (if is_given (flag g) ps then codes "true" else codes "false")
    go (inl x) = rw (x.0, x.1) refl
    go (inr x) = rw (x.1, x.2) refl
