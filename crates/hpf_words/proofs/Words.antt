-- One turn of `clap`'s walk over the words, for each kind of word.
use Rattle.std.proofs.Common.{ap, refl, sym, subst, Bool, true, false, true≢false, Option, Some, None, List, [], ◌∷◌, ◌++◌, ◌≡◌, ◌∙◌, ◌⊎◌, inl, inr, ℕ, map, append_assoc}
use Rattle.std.specs.Prelude.{◌&&◌, ◌||◌, if◌then◌else◌, is_some, slice_get, fold, find}
use Rattle.std.specs.List.{list_all}
use Rattle.std.specs.Option.{option_map_or}
use Rattle.std.specs.Str.{bytes_eq, chars}
use Rattle.std.proofs.lemmas.Bool.{and_parts}
use Rattle.clap.specs.Lexer.{long_of, short_of}
use Rattle.clap.specs.Walk.{Rule, Row, Held, Step, Waiting, Walk, idle, option, next, trailing, value, waits, done, arg_by_long, has_row, settled_rows, settled, reacted, walked, long_met, long_word, short_word, plain_word, after_step, after_flag, subcommand_or_other, subcommand_met, long_or_other, short_or_plain}
use Rattle.clap.specs.Faults.{bundle_fault, turn_fault, walk_fault, settle_fault, use_fault, long_fault, other_fault, flag_word_fault, step_fault}
use Rattle.clap.specs.Kinds.{Kinds, or_else}
use Rattle.clap.specs.declared.error.kind.ErrorKind.{ErrorKind}
use Rattle.clap.specs.declared.error.kind.ErrorKind.TheVariants.{UnknownArgument, ArgumentConflict}
use Rattle.hpf_words.specs.Parts.{Text, Part, Field, Valued, Word, ending, given, waiting, plain, wrong, value_of, flag, action, name_of, options, option_word, option_named, joined, parts_with}
use Rattle.hpf_words.specs.Jobs.{is_given, is_once}
use Rattle.hpf_words.proofs.Rules.{rule, R, S, by_id, nothing}
use Rattle.hpf_words.proofs.Given.{is_option, twice}
use Rattle.hpf_words.proofs.Steps.{kind, two_dashes, IsEnding, IsLong, IsShort, IsPlain, Seen, seen, rows, values_for, short_fails, short_met_is}

-- ---- the words as `clap` reads them

abbrev pub value_with : Word → Valued → Text → Option (List Part) → Option (List Part)
value_with plain v word later = joined (value_of v, word) later
value_with _ v word later = None

abbrev pub lenient : Option Valued → List Text → Option (List Part)
lenient None [] = Some []
lenient (Some v) [] = None
lenient None (word ∷ rest) = parts_with (kind word) word rest (lenient None rest) (λ v. lenient (Some v) rest)
lenient (Some v) (word ∷ rest) = value_with (kind word) v word (lenient None rest)

-- ---- faults

abbrev pub Fails : Kinds → Type 0
Fails ks = ks ≡ [] → ⊥

pub fails_first : (a b : Kinds) → Fails a → Fails (or_else a b)
fails_first [] b f = absurd (f refl)
fails_first (k ∷ ks) b f = f

or_assoc : (a b c : Kinds) → or_else (or_else a b) c ≡ or_else a (or_else b c)
or_assoc [] b c = refl
or_assoc (k ∷ ks) b c = refl

pub or_nil : (a : Kinds) → or_else a [] ≡ a
or_nil [] = refl
or_nil (k ∷ ks) = refl

-- ---- where the walk stands

abbrev pub held : List Row → Option (Text × List Text) → Held
held rs p = record { rows = rs; pending = p; skip = 0 }

abbrev pub at : Held → Waiting → Bool → ℕ → Walk
at h wt t pos = record { held = h; waiting = wt; position = pos; is_trailing = t; stopped = None }

abbrev pub walk_end : Walk → List Text → Held
walk_end w words = (fold (walked R []) w words).held

abbrev pub total : Walk → List Text → Kinds
total w words = or_else (walk_fault S [] w words) (settle_fault R false (walk_end w words))

step : (w : Walk) (word : Text) (rest : List Text) → total w (word ∷ rest) ≡ or_else (turn_fault S [] w word) (total (walked R [] w word) rest)
unfolding walk_fault
step w word rest = or_assoc (turn_fault S [] w word) (walk_fault S [] (walked R [] w word) rest) (settle_fault R false (walk_end (walked R [] w word) rest))

pub at_end : (w : Walk) → total w [] ≡ settle_fault R false w.held
unfolding walk_fault
at_end w = refl

abbrev pub place : Bool → ℕ
place b = if b then 2 else 1

abbrev pub pos : List Part → ℕ
pos ps = place (is_given action ps)

-- ---- what a walk comes to

abbrev pub Comes : Walk → List Text → List Part → Type 0
Comes w words all = ((is_once all ≡ true) × (total w words ≡ []) × (settled_rows R (walk_end w words).pending (walk_end w words).rows ≡ rows all))
    ⊎ ((is_once all ≡ false) × Fails (total w words))

abbrev pub Ends : Walk → List Text → List Part → Option (List Part) → Type 0
Ends w words ps None = Fails (total w words)
Ends w words ps (Some qs) = Comes w words (ps ++ qs)

pub fails_now : (w : Walk) (word : Text) (rest : List Text) → Fails (turn_fault S [] w word) → Fails (total w (word ∷ rest))
fails_now w word rest f e = fails_first _ _ f (sym (step w word rest) ∙ e)

pub total_next : (w after : Walk) (word : Text) (rest : List Text) → turn_fault S [] w word ≡ [] → walked R [] w word ≡ after → total w (word ∷ rest) ≡ total after rest
total_next w after word rest none is =
    step w word rest ∙ ap (λ k. or_else k (total (walked R [] w word) rest)) none ∙ ap (λ v. total v rest) is

pub fails_later : (w after : Walk) (word : Text) (rest : List Text) → turn_fault S [] w word ≡ [] → walked R [] w word ≡ after → Fails (total after rest) → Fails (total w (word ∷ rest))
fails_later w after word rest none is f e = f (sym (total_next w after word rest none is) ∙ e)

pub comes_later : (w after : Walk) (word : Text) (rest : List Text) (all : List Part) → turn_fault S [] w word ≡ [] → walked R [] w word ≡ after → Comes after rest all → Comes w (word ∷ rest) all
comes_later w after word rest all none is (inl c) =
    inl (c.0, total_next w after word rest none is ∙ c.1, ap (λ v. settled_rows R (walk_end v rest).pending (walk_end v rest).rows) is ∙ c.2)
comes_later w after word rest all none is (inr c) = inr (c.0, fails_later w after word rest none is c.1)

pub ends_later : (w after : Walk) (word : Text) (rest : List Text) (ps : List Part) (o : Option (List Part)) → turn_fault S [] w word ≡ [] → walked R [] w word ≡ after
    → Ends after rest ps o → Ends w (word ∷ rest) ps o
ends_later w after word rest ps None none is c = fails_later w after word rest none is c
ends_later w after word rest ps (Some qs) none is c = comes_later w after word rest (ps ++ qs) none is c

-- one more part in front
pub ends_joined : (w : Walk) (words : List Text) (ps : List Part) (x : Part) (o : Option (List Part)) → Ends w words (ps ++ x ∷ []) o → Ends w words ps (joined x o)
ends_joined w words ps x None c = c
ends_joined w words ps x (Some qs) c = subst (Comes w words) (append_assoc ps (x ∷ []) qs) c

pub ends_twice : (w : Walk) (words : List Text) (ps : List Part) (x : Part) (o : Option (List Part)) → is_given x.0 ps ≡ true → Fails (total w words) → Ends w words ps (joined x o)
ends_twice w words ps x None again f = f
ends_twice w words ps x (Some qs) again f = inr (twice ps x qs again, f)

-- ---- one word

met_none : (wt : Waiting) (word : Text) → subcommand_met [] wt word ≡ None
met_none idle word = refl
met_none (option id) word = refl
met_none Rattle.clap.specs.Walk.positional word = refl

abbrev pub Turned : Held → Waiting → ℕ → Text → Kinds → Held → Step → Type 0
Turned h wt p word kf g st = (turn_fault S [] (at h wt false p) word ≡ or_else kf (step_fault S p g st))
    × (walked R [] (at h wt false p) word ≡ after_step R word (at h wt false p) g st)

turned : (h : Held) (wt : Waiting) (p : ℕ) (word : Text) (kf : Kinds) (met : Held × Step) → other_fault S None word h ≡ kf → subcommand_or_other R None wt p word h ≡ met
    → Turned h wt p word kf met.0 met.1
unfolding walked
turned h wt p word kf met f m =
    let mm = ap (λ o. subcommand_or_other R o wt p word h) (met_none wt word) ∙ m in
    let ff = ap (λ o. other_fault S o word h) (met_none wt word) ∙ f in
    ((λ i. or_else (ff i) (step_fault S p (mm i).0 (mm i).1)), (λ i. after_step R word (at h wt false p) (mm i).0 (mm i).1))

module _ (h : Held) (wt : Waiting) (p : ℕ) (word : Text) where
  ending_turn : IsEnding word → Turned h wt p word [] h (trailing p)
  ending_turn s = turned h wt p word [] (h, trailing p)
      (ap (λ b. if b then [] else flag_word_fault R false (long_of word) word h) s.0)
      (ap (λ b. if b then (h, trailing p) else long_or_other R wt word (long_of word) h) s.0)

  long_turn : (n : Text) (v : Option Text) (kf : Kinds) (met : Held × Step) → bytes_eq word two_dashes ≡ false → long_of word ≡ Some (n, v)
      → long_fault R false (arg_by_long R n) v h ≡ kf → long_word R wt word n v h ≡ met → Turned h wt p word kf met.0 met.1
  long_turn n v kf met e l f m = turned h wt p word kf met
      (ap (λ b. if b then [] else flag_word_fault R false (long_of word) word h) e ∙ ap (λ o. flag_word_fault R false o word h) l ∙ f)
      (ap (λ b. if b then (h, trailing p) else long_or_other R wt word (long_of word) h) e ∙ ap (λ o. long_or_other R wt word o h) l ∙ m)

  short_turn : (flags : Text) (kf : Kinds) (met : Held × Step) → bytes_eq word two_dashes ≡ false → long_of word ≡ None → short_of word ≡ Some flags
      → bundle_fault R false flags h ≡ kf → short_word R wt word flags h ≡ met → Turned h wt p word kf met.0 met.1
  short_turn flags kf met e l s f m = turned h wt p word kf met
      (ap (λ b. if b then [] else flag_word_fault R false (long_of word) word h) e ∙ ap (λ o. flag_word_fault R false o word h) l
      ∙ ap (λ o. option_map_or (λ flags. bundle_fault R false flags h) o []) s ∙ f)
      (ap (λ b. if b then (h, trailing p) else long_or_other R wt word (long_of word) h) e ∙ ap (λ o. long_or_other R wt word o h) l
      ∙ ap (λ o. short_or_plain R wt word o h) s ∙ m)

  plain_turn : IsPlain word → Turned h wt p word [] (plain_word R wt word h).0 (plain_word R wt word h).1
  plain_turn s = turned h wt p word [] (plain_word R wt word h)
      (ap (λ b. if b then [] else flag_word_fault R false (long_of word) word h) s.0 ∙ ap (λ o. flag_word_fault R false o word h) s.1
      ∙ ap (λ o. option_map_or (λ flags. bundle_fault R false flags h) o []) s.2)
      (ap (λ b. if b then (h, trailing p) else long_or_other R wt word (long_of word) h) s.0 ∙ ap (λ o. long_or_other R wt word o h) s.1
      ∙ ap (λ o. short_or_plain R wt word o h) s.2)

-- ---- one use

abbrev pub repeat : Bool → Kinds
repeat b = if b then ArgumentConflict ∷ [] else []

repeat_only : (b : Bool) → or_else (if b && true then ArgumentConflict ∷ [] else []) nothing ≡ repeat b
repeat_only true = refl
repeat_only false = refl

pub use_is : (f : Field) (t : Text) (rs : List Row) → use_fault false (rule f) (values_for f t) rs ≡ repeat (has_row (name_of f) rs)
use_is (value_of v) t rs = repeat_only (has_row (name_of (value_of v)) rs)
use_is (flag g) t rs = repeat_only (has_row (name_of (flag g)) rs)
use_is action t rs = repeat_only (has_row (name_of action) rs)

abbrev is_none : Kinds → Bool
is_none [] = true
is_none (k ∷ ks) = false

pub some_fault : (k : ErrorKind) (ks : Kinds) → Fails (k ∷ ks)
some_fault k ks e = true≢false (sym (ap is_none e))

pub repeated : Fails (repeat true)
repeated = some_fault _ _

-- an option needs its value
pub use_none : (v : Valued) (rs : List Row) → Fails (use_fault false (rule (value_of v)) [] rs)
use_none v rs = some_fault _ _

pub settle_of : (f : Field) (vs : List Text) (rs : List Row) → settle_fault R false (held rs (Some (name_of f, vs))) ≡ use_fault false (rule f) vs rs
settle_of f vs rs = ap (λ o. option_map_or (λ a. use_fault false a vs rs) o []) (by_id f)

-- ---- a long word

abbrev LongFails : Option Rule → Option Text → Word → Type 0
LongFails a v k = (k ≡ wrong) × ((h : Held) → Fails (long_fault R false a v h))

abbrev LongGives : Option Rule → Option Text → Word → Type 0
LongGives a v k = (f : Field) × (t : Text) × (k ≡ given (f, t)) × (is_option f ≡ true)
    × ((h : Held) → long_fault R false a v h ≡ or_else (settle_fault R false h) (use_fault false (rule f) (values_for f t) (settled R h).rows))
    × ((h : Held) → long_met R a v h ≡ (reacted R (rule f) (values_for f t) h, done))

abbrev LongWaits : Option Rule → Option Text → Word → Type 0
LongWaits a v k = (w : Valued) × (k ≡ waiting w) × ((h : Held) → long_fault R false a v h ≡ settle_fault R false h)
    × ((h : Held) → long_met R a v h ≡ (record (settled R h) { pending = Some (name_of (value_of w), []) }, waits (name_of (value_of w))))

abbrev LongIs : Option Rule → Option Text → Word → Type 0
LongIs a v k = LongFails a v k ⊎ (LongGives a v k ⊎ LongWaits a v k)

long_is : (f : Field) (v : Option Text) → is_option f ≡ true → LongIs (Some (rule f)) v (option_word f v)
long_is (value_of w) None o = inr (inr (w, refl, λ h. refl, λ h. refl))
long_is (value_of w) (Some t) o = inr (inl (value_of w, t, refl, refl, λ h. refl, λ h. refl))
long_is (flag g) None o = inr (inl (flag g, [], refl, refl, λ h. refl, λ h. refl))
long_is (flag g) (Some t) o = inl (refl, λ h. some_fault _ _)
long_is action v o = absurd (true≢false (sym o))

abbrev Looked : Text → Option Text → Option Rule → Option Field → Type 0
Looked n v a o = LongIs a v (option_map_or (λ f. option_word f v) o wrong)

-- what `clap` finds by a long name is what the name stands for
long_in : (fs : List Field) (n : Text) (v : Option Text) → list_all is_option fs ≡ true
    → Looked n v (arg_by_long (map rule fs ++ rule action ∷ []) n) (find (λ f. bytes_eq (name_of f) n) fs)
long_in [] n v all = inl (refl, λ h. some_fault _ _)
long_in (f ∷ fs) n v all = first f (and_parts (is_option f) _ all) (long_in fs n v)
  where
    pick : (b : Bool) (f : Field) (a : Option Rule) (o : Option Field) → is_option f ≡ true → Looked n v a o → Looked n v (if b || false then Some (rule f) else a) (if b then Some f else o)
    pick true f a o is rest = long_is f v is
    pick false f a o is rest = rest

    first : (f : Field) → (is_option f ≡ true) × (list_all is_option fs ≡ true)
        → (list_all is_option fs ≡ true → Looked n v (arg_by_long (map rule fs ++ rule action ∷ []) n) (find (λ f. bytes_eq (name_of f) n) fs))
        → Looked n v (arg_by_long (rule f ∷ map rule fs ++ rule action ∷ []) n) (find (λ f. bytes_eq (name_of f) n) (f ∷ fs))
    first (value_of w) are below = pick (bytes_eq (name_of (value_of w)) n) (value_of w) _ _ refl (below are.1)
    first (flag g) are below = pick (bytes_eq (name_of (flag g)) n) (flag g) _ _ refl (below are.1)
    first action are below = absurd (true≢false (sym are.0))

long_view : (n : Text) (v : Option Text) → Looked n v (arg_by_long R n) (option_named n)
long_view n v = long_in options n v refl

-- ---- every word

abbrev pub Ending : Text → Type 0
Ending word = (kind word ≡ ending) × ((h : Held) (wt : Waiting) (p : ℕ) → Turned h wt p word [] h (trailing p))

abbrev pub Wrong : Text → Type 0
Wrong word = (kind word ≡ wrong) × ((rs : List Row) (q : Option (Text × List Text)) (wt : Waiting) (p : ℕ) → Fails (turn_fault S [] (at (held rs q) wt false p) word))

abbrev pub Gives : Text → Type 0
Gives word = (f : Field) × (t : Text) × (kind word ≡ given (f, t)) × (is_option f ≡ true)
    × ((h : Held) (wt : Waiting) (p : ℕ) → Turned h wt p word (or_else (settle_fault R false h) (use_fault false (rule f) (values_for f t) (settled R h).rows)) (reacted R (rule f) (values_for f t) h) (next idle))

abbrev pub Waits : Text → Type 0
Waits word = (v : Valued) × (kind word ≡ waiting v)
    × ((h : Held) (wt : Waiting) (p : ℕ) → Turned h wt p word (settle_fault R false h) (record (settled R h) { pending = Some (name_of (value_of v), []) }) (next (option (name_of (value_of v)))))

abbrev pub Plain : Text → Type 0
Plain word = (kind word ≡ plain)
    × ((rs : List Row) (q : Option (Text × List Text)) (wt : Waiting) (p : ℕ) → Turned (held rs q) wt p word [] (plain_word R wt word (held rs q)).0 (plain_word R wt word (held rs q)).1)

abbrev pub View : Text → Type 0
View word = Ending word ⊎ (Wrong word ⊎ (Gives word ⊎ (Waits word ⊎ Plain word)))

of_long : (word : Text) → IsLong word → View word
of_long word l = go (long_view l.0 l.1)
  where
    go : Looked l.0 l.1 (arg_by_long R l.0) (option_named l.0) → View word
    go (inl x) = inr (inl (l.4 ∙ x.0, λ rs q wt p e. fails_first _ _ (x.1 (held rs q)) (sym (long_turn (held rs q) wt p word l.0 l.1 _ _ l.2 l.3 refl refl).0 ∙ e)))
    go (inr (inl x)) = inr (inr (inl (
      x.0,
      x.1,
      l.4 ∙ x.2,
      x.3,
      λ h wt p. long_turn h wt p word l.0 l.1 _ _ l.2 l.3 (x.4 h)
          (λ i. after_flag R wt word (x.5 h i).0 (x.5 h i).1),
    )))
    go (inr (inr x)) = inr (inr (inr (inl (
      x.0,
      l.4 ∙ x.1,
      λ h wt p. long_turn h wt p word l.0 l.1 _ _ l.2 l.3 (x.2 h)
          (λ i. after_flag R wt word (x.3 h i).0 (x.3 h i).1),
    ))))

of_short : (word : Text) → IsShort word → View word
of_short word s = go (slice_get (chars (s.0 ∷ s.1)) 0) refl
  where
    go : (o : Option ℕ) → slice_get (chars (s.0 ∷ s.1)) 0 ≡ o → View word
    go None e = inr (inr (inr (inr (
      s.5 ∙ ap (λ o. if is_some o then wrong else plain) e,
      λ rs q wt p. short_turn (held rs q) wt p word (s.0 ∷ s.1) [] (plain_word R wt word (held rs q)) s.2 s.3 s.4 (short_fails s.0 s.1 rs q None e)
          (λ i. after_flag R wt word (short_met_is s.0 s.1 rs q None e i).0 (short_met_is s.0 s.1 rs q None e i).1),
    ))))
    go (Some x) e = inr (inl (
      s.5 ∙ ap (λ o. if is_some o then wrong else plain) e,
      λ rs q wt p k. fails_first (UnknownArgument ∷ []) (step_fault S p (short_word R wt word (s.0 ∷ s.1) (held rs q)).0 (short_word R wt word (s.0 ∷ s.1) (held rs q)).1)
          (some_fault UnknownArgument [])
          (sym (short_turn (held rs q) wt p word (s.0 ∷ s.1) (UnknownArgument ∷ []) (short_word R wt word (s.0 ∷ s.1) (held rs q)) s.2 s.3 s.4 (short_fails s.0 s.1 rs q (Some x) e) refl).0 ∙ k),
    ))

pub view : (word : Text) → View word
view word = go (seen word)
  where
    go : Seen word → View word
    go (inl x) = inl (x.1, λ h wt p. ending_turn h wt p word x)
    go (inr (inl x)) = of_long word x
    go (inr (inr (inl x))) = of_short word x
    go (inr (inr (inr x))) = inr (inr (inr (inr (x.3, λ rs q wt p. plain_turn (held rs q) wt p word x))))
