-- The walk over all the words.
use Rattle.std.proofs.Common.{ap, ap₂, refl, sym, subst, Bool, true, false, Option, Some, None, List, [], ◌∷◌, ◌++◌, ◌≡◌, ◌∙◌, inl, inr, ℕ, map, append-nil}
use Rattle.std.proofs.Math.Bool.{or-false, or-true}
use Rattle.std.proofs.lemmas.List.{map-append}
use Rattle.std.specs.Prelude.{◌||◌, ◌&&◌, if◌then◌else◌}
use Rattle.clap.specs.Walk.{Row, Held, Step, Waiting, Walk, idle, option, next, value, settled_rows, settled, used, walked, plain_word, is_pending, positional_held, to_positional, pushed, arg_by_index, used_by_id}
use Rattle.clap.specs.Faults.{turn_fault, settle_fault, use_fault, step_fault}
use Rattle.clap.specs.Kinds.{Kinds, or_else}
use Rattle.clap.specs.declared.error.kind.ErrorKind.TheVariants.{UnknownArgument}
use Rattle.hpf_words.specs.Parts.{Text, Part, Field, Valued, Word, value_of, action, grid, threads, size, name_of, joined, positional, parts_with}
use Rattle.hpf_words.specs.Jobs.{is_given, is_once, same}
use Rattle.hpf_words.proofs.Rules.{rule, R, S, by_id}
use Rattle.hpf_words.proofs.Given.{given_more, not_action, once_more}
use Rattle.hpf_words.proofs.Steps.{kind, row, rows, has_given, values_for, used_new}
use Rattle.hpf_words.proofs.Words.{lenient, value_with, Fails, fails_first, or_nil, held, at, total, at_end, place, pos, Comes, Ends, fails_now, fails_later, ends_later, ends_joined, ends_twice, Turned, repeat, use_is, repeated, some_fault, use_none, settle_of, Gives, Waits, Plain, View, view}

-- ---- a positional word

pending_goes : (b : Bool) (k : Kinds) → (if b && false then [] else k) ≡ k
pending_goes true k = refl
pending_goes false k = refl

pending_held : (b : Bool) (h g : Held) → (if b && false then h else g) ≡ g
pending_held true h g = refl
pending_held false h g = refl

first_fault : (h : Held) → step_fault S 1 h value ≡ settle_fault R false h
first_fault h = pending_goes (is_pending (rule action) h.pending) (settle_fault R false h)

positional_takes : (word : Text) (rs : List Row) (p : Option (Text × List Text)) → positional_held R (rule action) word (held rs p) ≡ held (settled_rows R p rs) (Some (name_of action, word ∷ []))
positional_takes word rs p = ap (pushed (name_of action) word) (pending_held (is_pending (rule action) p) (held rs p) (settled R (held rs p)))

position_fails : (b : Bool) (h : Held) → Fails (settle_fault R false h) → Fails (step_fault S (place b) h value)
position_fails true h f = some_fault _ _
position_fails false h f = λ e. f (sym (first_fault h) ∙ e)

-- ---- an option without a value, or a second use, is a fault in the end

trail_fault : (h : Held) (wt : Waiting) (p : ℕ) (word : Text) → turn_fault S [] (at h wt true p) word ≡ step_fault S p h value
trail_fault h wt p word = refl

trail_walked : (h : Held) (wt : Waiting) (p : ℕ) (word : Text) → walked R [] (at h wt true p) word ≡ to_positional R (arg_by_index R p) word (at h wt true p) h
unfolding walked
trail_walked h wt p word = refl

doom_trail : (words : List Text) (h : Held) (wt : Waiting) (b : Bool) → Fails (settle_fault R false h) → Fails (total (at h wt true (place b)) words)
doom_trail [] h wt b f = λ e. f (sym (at_end (at h wt true (place b))) ∙ e)
doom_trail (word ∷ rest) h wt b f = fails_now (at h wt true (place b)) word rest (position_fails b h f)

doom_idle : (words : List Text) (rs : List Row) (p : Option (Text × List Text)) (b : Bool) → Fails (settle_fault R false (held rs p)) → Fails (total (at (held rs p) idle false (place b)) words)
doom_idle [] rs p b f = λ e. f (sym (at_end (at (held rs p) idle false (place b))) ∙ e)
doom_idle (word ∷ rest) rs p b f = go (view word)
  where
    go : View word → Fails (total (at (held rs p) idle false (place b)) (word ∷ rest))
    go (inl x) =
        let t = x.1 (held rs p) idle (place b) in
        fails_later (at (held rs p) idle false (place b)) (at (held rs p) idle true (place b)) word rest t.0 t.1 (doom_trail rest (held rs p) idle b f)
    go (inr (inl x)) = fails_now (at (held rs p) idle false (place b)) word rest (x.1 rs p idle (place b))
    go (inr (inr (inl x))) = fails_now (at (held rs p) idle false (place b)) word rest
        (λ e. fails_first (or_else (settle_fault R false (held rs p)) (use_fault false (rule x.0) (values_for x.0 x.1) (settled R (held rs p)).rows)) []
        (fails_first (settle_fault R false (held rs p)) (use_fault false (rule x.0) (values_for x.0 x.1) (settled R (held rs p)).rows) f) (sym (x.4 (held rs p) idle (place b)).0 ∙ e))
    go (inr (inr (inr (inl x)))) = fails_now (at (held rs p) idle false (place b)) word rest
        (λ e. fails_first (settle_fault R false (held rs p)) [] f (sym (x.2 (held rs p) idle (place b)).0 ∙ e))
    go (inr (inr (inr (inr x)))) = fails_now (at (held rs p) idle false (place b)) word rest
        (λ e. position_fails b (held rs p) f (sym (x.1 rs p idle (place b)).0 ∙ e))

-- ---- one more part

rows_more : (ps : List Part) (x : Part) → rows ps ++ row x ∷ [] ≡ rows (ps ++ x ∷ [])
rows_more ps x = sym (map-append row ps (x ∷ []))

pos_same : (ps : List Part) (x : Part) → same action x.0 ≡ false → pos (ps ++ x ∷ []) ≡ pos ps
pos_same ps x other = ap place (given_more action ps x ∙ ap (λ b. is_given action ps || b) other ∙ or-false (is_given action ps))

pos_two : (ps : List Part) (word : Text) → pos (ps ++ positional word ∷ []) ≡ 2
pos_two ps word = ap place (given_more action ps (positional word) ∙ or-true (is_given action ps))

uses : (f : Field) (t : Text) (ps : List Part) → use_fault false (rule f) (values_for f t) (rows ps) ≡ repeat (is_given f ps)
uses f t ps = use_is f t (rows ps) ∙ ap repeat (has_given f ps)

abbrev pub IsSound : List Row → Option (Text × List Text) → List Part → Type 0
IsSound rs p ps = (settle_fault R false (held rs p) ≡ []) × (settled_rows R p rs ≡ rows ps) × (is_once ps ≡ true)

-- after a positional word
positional_sound : (ps : List Part) (word : Text) → is_once ps ≡ true → is_given action ps ≡ false → IsSound (rows ps) (Some (name_of action, word ∷ [])) (ps ++ positional word ∷ [])
positional_sound ps word once new = (
  uses action word ps ∙ ap repeat new,
  used_new action word (rows ps) (has_given action ps ∙ new) ∙ rows_more ps (positional word),
  once_more ps (positional word) once new,
)

module _ (wt : Waiting) (tr : Bool) (rs : List Row) (p : Option (Text × List Text)) (ps : List Part) (sound : IsSound rs p ps) (word : Text) (rest : List Text) (o : Option (List Part))
    (fault : turn_fault S [] (at (held rs p) wt tr (pos ps)) word ≡ step_fault S (pos ps) (held rs p) value)
    (goes : walked R [] (at (held rs p) wt tr (pos ps)) word ≡ to_positional R (arg_by_index R (pos ps)) word (at (held rs p) wt tr (pos ps)) (held rs p))
    (later : is_given action ps ≡ false → Ends (at (held (rows ps) (Some (name_of action, word ∷ []))) idle tr (pos (ps ++ positional word ∷ []))) rest (ps ++ positional word ∷ []) o) where
  first_goes : is_given action ps ≡ false → walked R [] (at (held rs p) wt tr (pos ps)) word ≡ at (held (rows ps) (Some (name_of action, word ∷ []))) idle tr (pos (ps ++ positional word ∷ []))
  first_goes new = goes
      ∙ ap (λ b. to_positional R (arg_by_index R (place b)) word (at (held rs p) wt tr (place b)) (held rs p)) new
      ∙ ap₂ (λ h t. at h idle t 2) (positional_takes word rs p ∙ ap (λ r. held r (Some (name_of action, word ∷ []))) sound.1) (or-false tr)
      ∙ ap (λ n. at (held (rows ps) (Some (name_of action, word ∷ []))) idle tr n) (sym (pos_two ps word))

  positional_ends : Ends (at (held rs p) wt tr (pos ps)) (word ∷ rest) ps (joined (positional word) o)
  positional_ends = go (is_given action ps) refl
    where
      go : (b : Bool) → is_given action ps ≡ b → Ends (at (held rs p) wt tr (pos ps)) (word ∷ rest) ps (joined (positional word) o)
      go true again = ends_twice (at (held rs p) wt tr (pos ps)) (word ∷ rest) ps (positional word) o again
          (fails_now (at (held rs p) wt tr (pos ps)) word rest (λ e. some_fault UnknownArgument [] (sym (fault ∙ ap (λ b. step_fault S (place b) (held rs p) value) again) ∙ e)))
      go false new = ends_joined (at (held rs p) wt tr (pos ps)) (word ∷ rest) ps (positional word) o
          (ends_later (at (held rs p) wt tr (pos ps)) (at (held (rows ps) (Some (name_of action, word ∷ []))) idle tr (pos (ps ++ positional word ∷ []))) word rest (ps ++ positional word ∷ []) o
          (fault ∙ ap (λ b. step_fault S (place b) (held rs p) value) new ∙ first_fault (held rs p) ∙ sound.0) (first_goes new) (later new))

-- ---- after `--`

trail : (words : List Text) (wt : Waiting) (rs : List Row) (p : Option (Text × List Text)) (ps : List Part) → IsSound rs p ps
    → Ends (at (held rs p) wt true (pos ps)) words ps (Some (map positional words))
trail [] wt rs p ps sound = subst (Comes (at (held rs p) wt true (pos ps)) []) (sym (append-nil ps)) (inl (sound.2, at_end (at (held rs p) wt true (pos ps)) ∙ sound.0, sound.1))
trail (word ∷ rest) wt rs p ps sound = positional_ends wt true rs p ps sound word rest (Some (map positional rest))
    (trail_fault (held rs p) wt (pos ps) word) (trail_walked (held rs p) wt (pos ps) word)
    (λ new. trail rest idle (rows ps) (Some (name_of action, word ∷ [])) (ps ++ positional word ∷ []) (positional_sound ps word sound.2 new))

-- ---- before `--`

abbrev pub IdleEnds : List Text → Type 0
IdleEnds words = (rs : List Row) (p : Option (Text × List Text)) (ps : List Part) → IsSound rs p ps → Ends (at (held rs p) idle false (pos ps)) words ps (lenient None words)

abbrev pub WaitEnds : List Text → Type 0
WaitEnds words = (v : Valued) (ps : List Part) → is_once ps ≡ true
    → Ends (at (held (rows ps) (Some (name_of (value_of v), []))) (option (name_of (value_of v))) false (pos ps)) words ps (lenient (Some v) words)

given_sound : (ps : List Part) (f : Field) (t : Text) → is_once ps ≡ true → is_given f ps ≡ false → IsSound (rows (ps ++ (f, t) ∷ [])) None (ps ++ (f, t) ∷ [])
given_sound ps f t once new = (refl, refl, once_more ps (f, t) once new)

module _ (word : Text) (rest : List Text) (ih : IdleEnds rest) (wh : WaitEnds rest) where
  module _ (rs : List Row) (p : Option (Text × List Text)) (ps : List Part) (sound : IsSound rs p ps) where
    gives_ends : (x : Gives word) → Ends (at (held rs p) idle false (pos ps)) (word ∷ rest) ps (joined (x.0, x.1) (lenient None rest))
    gives_ends x = go (is_given x.0 ps) refl
      where
        turn : turn_fault S [] (at (held rs p) idle false (pos ps)) word ≡ repeat (is_given x.0 ps)
        turn = (x.4 (held rs p) idle (pos ps)).0 ∙ or_nil (or_else (settle_fault R false (held rs p)) (use_fault false (rule x.0) (values_for x.0 x.1) (settled_rows R p rs)))
            ∙ ap (λ k. or_else k (use_fault false (rule x.0) (values_for x.0 x.1) (settled_rows R p rs))) sound.0
            ∙ ap (use_fault false (rule x.0) (values_for x.0 x.1)) sound.1 ∙ uses x.0 x.1 ps

        goes : is_given x.0 ps ≡ false → walked R [] (at (held rs p) idle false (pos ps)) word
            ≡ at (held (rows (ps ++ (x.0, x.1) ∷ [])) None) idle false (pos (ps ++ (x.0, x.1) ∷ []))
        goes new = (x.4 (held rs p) idle (pos ps)).1
            ∙ ap₂ (λ r n. at (held r None) idle false n)
            (ap (used (rule x.0) (values_for x.0 x.1)) sound.1 ∙ used_new x.0 x.1 (rows ps) (has_given x.0 ps ∙ new) ∙ rows_more ps (x.0, x.1))
            (sym (pos_same ps (x.0, x.1) (not_action x.0 x.3)))

        go : (b : Bool) → is_given x.0 ps ≡ b → Ends (at (held rs p) idle false (pos ps)) (word ∷ rest) ps (joined (x.0, x.1) (lenient None rest))
        go true again = ends_twice (at (held rs p) idle false (pos ps)) (word ∷ rest) ps (x.0, x.1) (lenient None rest) again
            (fails_now (at (held rs p) idle false (pos ps)) word rest (λ e. repeated (sym (turn ∙ ap repeat again) ∙ e)))
        go false new = ends_joined (at (held rs p) idle false (pos ps)) (word ∷ rest) ps (x.0, x.1) (lenient None rest)
            (ends_later (at (held rs p) idle false (pos ps)) (at (held (rows (ps ++ (x.0, x.1) ∷ [])) None) idle false (pos (ps ++ (x.0, x.1) ∷ []))) word rest (ps ++ (x.0, x.1) ∷ [])
            (lenient None rest) (turn ∙ ap repeat new) (goes new)
            (ih (rows (ps ++ (x.0, x.1) ∷ [])) None (ps ++ (x.0, x.1) ∷ []) (given_sound ps x.0 x.1 sound.2 new)))

    waits_ends : (x : Waits word) → Ends (at (held rs p) idle false (pos ps)) (word ∷ rest) ps (lenient (Some x.0) rest)
    waits_ends x = ends_later (at (held rs p) idle false (pos ps)) (at (held (rows ps) (Some (name_of (value_of x.0), []))) (option (name_of (value_of x.0))) false (pos ps)) word rest ps (lenient (Some x.0) rest)
        ((x.2 (held rs p) idle (pos ps)).0 ∙ or_nil (settle_fault R false (held rs p)) ∙ sound.0)
        ((x.2 (held rs p) idle (pos ps)).1 ∙ ap (λ r. at (held r (Some (name_of (value_of x.0), []))) (option (name_of (value_of x.0))) false (pos ps)) sound.1)
        (wh x.0 ps sound.2)

    abbrev Reads : Word → Type 0
    Reads k = Ends (at (held rs p) idle false (pos ps)) (word ∷ rest) ps (parts_with k word rest (lenient None rest) (λ v. lenient (Some v) rest))

    idle_word : Reads (kind word)
    idle_word = go (view word)
      where
        go : View word → Reads (kind word)
        go (inl x) =
            let t = x.1 (held rs p) idle (pos ps) in
            subst Reads (sym x.0) (ends_later (at (held rs p) idle false (pos ps)) (at (held rs p) idle true (pos ps)) word rest ps (Some (map positional rest)) t.0 t.1
            (trail rest idle rs p ps sound))
        go (inr (inl x)) = subst Reads (sym x.0) (fails_now (at (held rs p) idle false (pos ps)) word rest (x.1 rs p idle (pos ps)))
        go (inr (inr (inl x))) = subst Reads (sym x.2) (gives_ends x)
        go (inr (inr (inr (inl x)))) = subst Reads (sym x.1) (waits_ends x)
        go (inr (inr (inr (inr x)))) =
            let t = x.1 rs p idle (pos ps) in
            subst Reads (sym x.0) (positional_ends idle false rs p ps sound word rest (lenient None rest) t.0 t.1
            (λ new. ih (rows ps) (Some (name_of action, word ∷ [])) (ps ++ positional word ∷ []) (positional_sound ps word sound.2 new)))

  module _ (v : Valued) (ps : List Part) (once : is_once ps ≡ true) where
    abbrev Now : Held
    Now = held (rows ps) (Some (name_of (value_of v), []))

    abbrev Here : Walk
    Here = at Now (option (name_of (value_of v))) false (pos ps)

    abbrev Then : Walk
    Then = at (held (rows ps) (Some (name_of (value_of v), word ∷ []))) idle false (pos ps)

    dead : Fails (settle_fault R false Now)
    dead e = use_none v (rows ps) (sym (settle_of (value_of v) [] (rows ps)) ∙ e)

    abbrev Awaits : Word → Type 0
    Awaits k = Ends Here (word ∷ rest) ps (value_with k v word (lenient None rest))

    taken : plain_word R (option (name_of (value_of v))) word Now ≡ (held (rows ps) (Some (name_of (value_of v), word ∷ [])), next idle)
    taken = of v
      where
        of : (w : Valued) → plain_word R (option (name_of (value_of w))) word (held (rows ps) (Some (name_of (value_of w), []))) ≡ (held (rows ps) (Some (name_of (value_of w), word ∷ [])), next idle)
        of grid = refl
        of threads = refl
        of size = refl

    value_ends : (x : Plain word) → Ends Here (word ∷ rest) ps (joined (value_of v, word) (lenient None rest))
    value_ends x = go (is_given (value_of v) ps) refl
      where
        t : Turned Now (option (name_of (value_of v))) (pos ps) word [] (held (rows ps) (Some (name_of (value_of v), word ∷ []))) (next idle)
        t = subst (λ (m : Held × Step). Turned Now (option (name_of (value_of v))) (pos ps) word [] m.0 m.1) taken (x.1 (rows ps) (Some (name_of (value_of v), [])) (option (name_of (value_of v))) (pos ps))

        settle : settle_fault R false (held (rows ps) (Some (name_of (value_of v), word ∷ []))) ≡ repeat (is_given (value_of v) ps)
        settle = settle_of (value_of v) (word ∷ []) (rows ps) ∙ uses (value_of v) word ps

        settles : is_given (value_of v) ps ≡ false → settled_rows R (Some (name_of (value_of v), word ∷ [])) (rows ps) ≡ rows (ps ++ (value_of v, word) ∷ [])
        settles new = ap (λ o. used_by_id o (word ∷ []) (rows ps)) (by_id (value_of v)) ∙ used_new (value_of v) word (rows ps) (has_given (value_of v) ps ∙ new)
            ∙ rows_more ps (value_of v, word)

        go : (b : Bool) → is_given (value_of v) ps ≡ b → Ends Here (word ∷ rest) ps (joined (value_of v, word) (lenient None rest))
        go true again = ends_twice Here (word ∷ rest) ps (value_of v, word) (lenient None rest) again
            (fails_later Here Then word rest t.0 t.1 (doom_idle rest (rows ps) (Some (name_of (value_of v), word ∷ [])) (is_given action ps) (λ e. repeated (sym (settle ∙ ap repeat again) ∙ e))))
        go false new = ends_joined Here (word ∷ rest) ps (value_of v, word) (lenient None rest)
            (ends_later Here (at (held (rows ps) (Some (name_of (value_of v), word ∷ []))) idle false (pos (ps ++ (value_of v, word) ∷ []))) word rest (ps ++ (value_of v, word) ∷ []) (lenient None rest)
            t.0 (t.1 ∙ ap (at (held (rows ps) (Some (name_of (value_of v), word ∷ []))) idle false) (sym (pos_same ps (value_of v, word) (not_action (value_of v) refl))))
            (ih (rows ps) (Some (name_of (value_of v), word ∷ [])) (ps ++ (value_of v, word) ∷ []) (settle ∙ ap repeat new, settles new, once_more ps (value_of v, word) once new)))

    wait_word : Awaits (kind word)
    wait_word = go (view word)
      where
        go : View word → Awaits (kind word)
        go (inl x) =
            let t = x.1 Now (option (name_of (value_of v))) (pos ps) in
            subst Awaits (sym x.0) (fails_later Here (at Now (option (name_of (value_of v))) true (pos ps)) word rest t.0 t.1 (doom_trail rest Now (option (name_of (value_of v))) (is_given action ps) dead))
        go (inr (inl x)) = subst Awaits (sym x.0) (fails_now Here word rest (x.1 (rows ps) (Some (name_of (value_of v), [])) (option (name_of (value_of v))) (pos ps)))
        go (inr (inr (inl x))) = subst Awaits (sym x.2) (fails_now Here word rest
            (λ e. fails_first (or_else (settle_fault R false Now) (use_fault false (rule x.0) (values_for x.0 x.1) (settled R Now).rows)) []
            (fails_first (settle_fault R false Now) (use_fault false (rule x.0) (values_for x.0 x.1) (settled R Now).rows) dead) (sym (x.4 Now (option (name_of (value_of v))) (pos ps)).0 ∙ e)))
        go (inr (inr (inr (inl x)))) = subst Awaits (sym x.1) (fails_now Here word rest
            (λ e. fails_first (settle_fault R false Now) [] dead (sym (x.2 Now (option (name_of (value_of v))) (pos ps)).0 ∙ e)))
        go (inr (inr (inr (inr x)))) = subst Awaits (sym x.0) (value_ends x)

both_end : (words : List Text) → IdleEnds words × WaitEnds words
both_end [] = (
  λ rs p ps sound. subst (Comes (at (held rs p) idle false (pos ps)) []) (sym (append-nil ps)) (inl (sound.2, at_end (at (held rs p) idle false (pos ps)) ∙ sound.0, sound.1)),
  λ v ps once e. use_none v (rows ps) (sym (at_end (at (held (rows ps) (Some (name_of (value_of v), []))) (option (name_of (value_of v))) false (pos ps)) ∙ settle_of (value_of v) [] (rows ps)) ∙ e),
)
both_end (word ∷ rest) =
    let below = both_end rest in
    (λ rs p ps sound. idle_word word rest below.0 below.1 rs p ps sound, λ v ps once. wait_word word rest below.0 below.1 v ps once)

-- what the walk over the words of a command line comes to
pub walk_ends : (words : List Text) → Ends (at (held [] None) idle false 1) words [] (lenient None words)
walk_ends words = (both_end words).0 [] None [] (refl, refl, refl)
