-- How `clap` takes one word.
use Rattle.std.proofs.Common.{ap, refl, Bool, true, false, Option, Some, None, List, [], ◌∷◌, ◌++◌, ◌≡◌, ◌∙◌, ◌⊎◌, inl, inr, ℕ, codes, map, append-nil}
use Rattle.std.specs.Prelude.{◌||◌, ◌==◌, if◌then◌else◌, is_some, slice_get}
use Rattle.std.specs.Option.{option_map_or}
use Rattle.std.specs.Str.{bytes_eq, chars}
use Rattle.std.proofs.lemmas.Bool.{or_parts}
use Rattle.clap.specs.Lexer.{long_of, short_of, name_and_value}
use Rattle.clap.specs.Walk.{Row, plain as no_flag, refused, at_row, used, has_row, bundle, bundle_met, more_values}
use Rattle.clap.specs.Faults.{bundle_fault, flags_fault}
use Rattle.clap.specs.declared.parser.matches.ValueSource.TheVariants.{CommandLine}
use Rattle.clap.specs.declared.builder.value_parser.Reading.TheVariants.{AsWritten}
use Rattle.clap.specs.declared.error.kind.ErrorKind.TheVariants.{UnknownArgument}
use Rattle.hpf_words.specs.Parts.{Text, Part, Field, Word, ending, plain, wrong, value_of, flag, action, name_of, option_word, option_named, after_two}
use Rattle.hpf_words.specs.Jobs.{is_given, same}
use Rattle.hpf_words.proofs.Rules.{rule, R}

-- ---- what a word is to `clap`: as by the definition, but that a lone `-` is no option

abbrev pub short_kind : Text → Word
short_kind flags = if is_some (slice_get (chars flags) 0) then wrong else plain

abbrev pub one_kind : Text → Word
one_kind [] = plain
one_kind (b ∷ bs) = if b == 45 then after_two bs else short_kind (b ∷ bs)

abbrev pub kind : Text → Word
kind [] = plain
kind (b ∷ bs) = if b == 45 then one_kind bs else plain

abbrev pub two_dashes : Text
two_dashes = 45 ∷ 45 ∷ []

abbrev pub IsEnding : Text → Type 0
IsEnding word = (bytes_eq word two_dashes ≡ true) × (kind word ≡ ending)

abbrev pub IsLong : Text → Type 0
IsLong word = (n : Text) × (v : Option Text) × (bytes_eq word two_dashes ≡ false) × (long_of word ≡ Some (n, v))
    × (kind word ≡ option_map_or (λ f. option_word f v) (option_named n) wrong)

abbrev pub IsShort : Text → Type 0
IsShort word = (b : ℕ) × (bs : Text) × (bytes_eq word two_dashes ≡ false) × (long_of word ≡ None) × (short_of word ≡ Some (b ∷ bs)) × (kind word ≡ short_kind (b ∷ bs))

abbrev pub IsPlain : Text → Type 0
IsPlain word = (bytes_eq word two_dashes ≡ false) × (long_of word ≡ None) × (short_of word ≡ None) × (kind word ≡ plain)

abbrev pub Seen : Text → Type 0
Seen word = IsEnding word ⊎ (IsLong word ⊎ (IsShort word ⊎ IsPlain word))

pub seen : (word : Text) → Seen word
seen [] = inr (inr (inr (refl, refl, refl, refl)))
seen (a ∷ bs) = go (a == 45) refl
  where
    two : (b : ℕ) (cs : Text) → (a == 45) ≡ true → (c : Bool) → (b == 45) ≡ c → Seen (a ∷ b ∷ cs)
    two b cs e false f = inr (inr (inl (b, cs, rw (e, f) refl, rw (e, f) refl, rw (e, f) refl, rw (e, f) refl)))
    two b [] e true f = inl (rw (e, f) refl, rw (e, f) refl)
    two b (x ∷ xs) e true f =
        inr (inl ((name_and_value (x ∷ xs)).0, (name_and_value (x ∷ xs)).1, rw (e, f) refl, rw (e, f) refl, rw (e, f) refl))

    dash : (bs : Text) → (a == 45) ≡ true → Seen (a ∷ bs)
    dash [] e = inr (inr (inr (rw e refl, rw e refl, rw e refl, rw e refl)))
    dash (b ∷ cs) e = two b cs e (b == 45) refl

    go : (c : Bool) → (a == 45) ≡ c → Seen (a ∷ bs)
    go false e = inr (inr (inr (rw e refl, rw e refl, rw e refl, rw e refl)))
    go true e = dash bs e

-- ---- rows

-- what `clap` stores of a part: a flag has the text `true`
abbrev pub row_text_of : Field → Text → Text
row_text_of (flag g) t = codes "true"
row_text_of f t = t

abbrev pub row : Part → Row
row p = record { id = name_of p.0; values = row_text_of p.0 p.1 ∷ []; count = None; source = Some CommandLine; reading = AsWritten }

abbrev pub rows : List Part → List Row
rows = map row

pub has_given : (f : Field) (ps : List Part) → has_row (name_of f) (rows ps) ≡ is_given f ps
has_given f [] = refl
has_given f (p ∷ ps) = ap (λ b. same f p.0 || b) (has_given f ps)

pub appended : (name : Text) (change : Row → List Row) (missing rs : List Row) → has_row name rs ≡ false → at_row name change missing rs ≡ rs ++ missing
appended name change missing [] none = refl
appended name change missing (r ∷ rs) none =
    let miss = or_parts (bytes_eq r.id name) _ none in
    rw miss.0 (ap (λ xs. r ∷ xs) (appended name change missing rs miss.1))

-- the values of a use
abbrev pub values_for : Field → Text → List Text
values_for (flag g) t = []
values_for f t = t ∷ []

added : (name : Text) (rs : List Row) (change : Row → List Row) (new : Row) → has_row name rs ≡ false → at_row name change (new ∷ []) (at_row name (λ _. []) [] rs) ≡ rs ++ new ∷ []
added name rs change new none =
    ap (at_row name change (new ∷ [])) (appended name (λ _. []) [] rs none ∙ append-nil rs) ∙ appended name change (new ∷ []) rs none

-- a first use adds a row
pub used_new : (f : Field) (t : Text) (rs : List Row) → has_row (name_of f) rs ≡ false → used (rule f) (values_for f t) rs ≡ rs ++ row (f, t) ∷ []
used_new (value_of v) t rs none = added (name_of (value_of v)) rs (more_values CommandLine (t ∷ [])) (row (value_of v, t)) none
used_new (flag g) t rs none = added (name_of (flag g)) rs (more_values CommandLine (codes "true" ∷ [])) (row (flag g, t)) none
used_new action t rs none = added (name_of action) rs (more_values CommandLine (t ∷ [])) (row (action, t)) none

-- ---- a word with one dash

module _ (b : ℕ) (bs : Text) (rs : List Row) (p : Option (Text × List Text)) where
  pub short_fails : (o : Option ℕ) → slice_get (chars (b ∷ bs)) 0 ≡ o
      → bundle_fault R false (b ∷ bs) (record { rows = rs; pending = p; skip = 0 }) ≡ (if is_some o then UnknownArgument ∷ [] else [])
  unfolding flags_fault
  short_fails None e = rw e refl
  short_fails (Some x) e = rw e refl

  pub short_met_is : (o : Option ℕ) → slice_get (chars (b ∷ bs)) 0 ≡ o
      → bundle R (b ∷ bs) (record { rows = rs; pending = p; skip = 0 }) ≡ (record { rows = rs; pending = p; skip = 0 }, if is_some o then refused else no_flag)
  unfolding bundle_met
  short_met_is None e = rw e refl
  short_met_is (Some x) e = rw e refl
