-- The words that `clap` takes are those that give parts, but for texts that begin with a dash, which are no job.
use Rattle.std.proofs.Common.{ap, refl, sym, subst, Bool, true, false, true≢false, Option, Some, None, List, [], ◌∷◌, ◌≡◌, ◌∙◌, ◌⊎◌, inl, inr, ℕ, codes, option_map, eqb-true, length}
use Rattle.std.specs.Prelude.{◌||◌, ◌&&◌, ◌==◌, not, if◌then◌else◌, is_some, slice_get, option_and_then, nat_le, find}
use Rattle.std.specs.List.{list_any, slice_split, onto_first}
use Rattle.std.specs.Option.{option_map_or}
use Rattle.std.specs.Str.{chars}
use Rattle.std.specs.Str.Parse.{digits_value}
use Rattle.std.proofs.lemmas.Bool.{and_parts, false_from_ne_true, not_from_true, or_right, or_left}
use Rattle.clap.specs.Walk.{first_of, one_of}
use Rattle.clap.specs.Simple.{matches_of}
use Rattle.clap.specs.Faults.{fault_of}
use Rattle.hpf_base.specs.ElementOrder.{product}
use Rattle.hpf_base.specs.declared.limits.TheConstants.{MAX_NODES}
use Rattle.hpf_words.specs.Command.{hpf_app}
use Rattle.hpf_words.specs.Parts.{Text, Part, Field, Flag, Valued, Word, ending, given, waiting, plain, wrong, value_of, flag, action, grid, threads, size, arrays, fixed, name_of, option_word, option_named, joined, positional, parts_with, parts_from, word_of, after_two, begins_with_dash, name_in, value_in}
use Rattle.hpf_words.specs.Jobs.{between, is_given, is_once, same, text_of, job_by, job_in, job_of, action_of, grid_of, number_of, extents_of, threads_of, size_of, is_x, is_small, or_default}
use Rattle.hpf_words.specs.declared.job.Job.{Job}
use Rattle.hpf_words.proofs.Given.{same_refl, same_is}
use Rattle.hpf_words.proofs.Steps.{kind, rows}
use Rattle.hpf_words.proofs.Words.{lenient, value_with, Fails, Ends}
use Rattle.hpf_words.proofs.Walks.{walk_ends}
use Rattle.hpf_words.proofs.Found.{all_rows, fault_is, flag_found, given_text, has_text, matches_are, rows_left, start, text_found}

-- ---- a text that begins with a dash says nothing

module _ (bs : Text) where
  number_none : (digits least greatest : ℕ) → number_of digits least greatest (45 ∷ bs) ≡ None
  number_none digits least greatest = go (nat_le 1 (length (45 ∷ bs))) (nat_le (length (45 ∷ bs)) digits)
    where
      go : (a b : Bool) → (if a && (b && false) then between least greatest (digits_value 10 (45 ∷ bs)) else None) ≡ None
      go true true = refl
      go true false = refl
      go false b = refl

  extents_none : (ts : List Text) → extents_of (onto_first 45 ts) ≡ None
  extents_none [] = refl
  extents_none (t ∷ ts) = go (nat_le 1 (length (45 ∷ t))) (nat_le (length (45 ∷ t)) 2)
    where
      go : (a b : Bool) → option_and_then (λ n. option_map (λ ns. n ∷ ns) (extents_of ts)) (if a && (b && false) then between 1 MAX_NODES (digits_value 10 (45 ∷ t)) else None) ≡ None
      go true true = refl
      go true false = refl
      go false b = refl

  grid_none : grid_of (45 ∷ bs) ≡ None
  grid_none = ap (option_and_then (λ ns. if is_small ns then Some ns else None)) (extents_none (slice_split is_x bs))

after : {X Y : Type 0} (f : X → Option Y) → ((x : X) → f x ≡ None) → (o : Option X) → option_and_then f o ≡ None
after f e None = refl
after f e (Some x) = e x

bad_action : (w : Text) (g t n : Option Text) (b c : Bool) → action_of w ≡ None → job_by (Some w) g t n b c ≡ None
bad_action w g t n b c e = rw e refl

bad_grid : (w : Option Text) (g : Text) (t n : Option Text) (b c : Bool) → grid_of g ≡ None → job_by w (Some g) t n b c ≡ None
bad_grid w g t n b c e = after _ (λ act. rw e refl) (option_and_then action_of w)

bad_threads : (w g : Option Text) (t : Text) (n : Option Text) (b c : Bool) → threads_of t ≡ None → job_by w g (Some t) n b c ≡ None
bad_threads w g t n b c e = after _ (λ act. after _ (λ ex. rw e refl) (or_default grid_of (1 ∷ []) g)) (option_and_then action_of w)

bad_size : (w g t : Option Text) (n : Text) (b c : Bool) → size_of n ≡ None → job_by w g t (Some n) b c ≡ None
bad_size w g t n b c e =
    after _ (λ act. after _ (λ ex. after _ (λ crews. rw e refl) (or_default threads_of (product ex) t)) (or_default grid_of (1 ∷ []) g)) (option_and_then action_of w)

abbrev job_from : List Part → Option Job
job_from ps = job_by (text_of action ps) (text_of (value_of grid) ps) (text_of (value_of threads) ps) (text_of (value_of size) ps) (is_given (flag arrays) ps) (is_given (flag fixed) ps)

dashed_field : (ps : List Part) (f : Field) (bs : Text) → has_text f ≡ true → text_of f ps ≡ Some (45 ∷ bs) → job_from ps ≡ None
dashed_field ps (value_of grid) bs h e =
    rw e (bad_grid (text_of action ps) (45 ∷ bs) (text_of (value_of threads) ps) (text_of (value_of size) ps) (is_given (flag arrays) ps) (is_given (flag fixed) ps) (grid_none bs))
dashed_field ps (value_of threads) bs h e =
    rw e (bad_threads (text_of action ps) (text_of (value_of grid) ps) (45 ∷ bs) (text_of (value_of size) ps) (is_given (flag arrays) ps) (is_given (flag fixed) ps) (number_none bs 2 1 64))
dashed_field ps (value_of size) bs h e =
    rw e (bad_size (text_of action ps) (text_of (value_of grid) ps) (text_of (value_of threads) ps) (45 ∷ bs) (is_given (flag arrays) ps) (is_given (flag fixed) ps) (number_none bs 3 8 512))
dashed_field ps (flag g) bs h e = absurd (true≢false (sym h))
dashed_field ps action bs h e =
    rw e (bad_action (45 ∷ bs) (text_of (value_of grid) ps) (text_of (value_of threads) ps) (text_of (value_of size) ps) (is_given (flag arrays) ps) (is_given (flag fixed) ps) refl)

-- ---- where some text begins with a dash

abbrev is_dashed : Part → Bool
is_dashed p = has_text p.0 && begins_with_dash p.1

abbrev Dashed : List Part → Type 0
Dashed ps = (f : Field) × (bs : Text) × (has_text f ≡ true) × (text_of f ps ≡ Some (45 ∷ bs))

dash_text : (t : Text) → begins_with_dash t ≡ true → (bs : Text) × (t ≡ 45 ∷ bs)
dash_text [] e = absurd (true≢false (sym e))
dash_text (b ∷ bs) e = (bs, ap (λ x. x ∷ bs) (eqb-true b 45 e))

dashed_part : (ps : List Part) → is_once ps ≡ true → list_any is_dashed ps ≡ true → Dashed ps
dashed_part [] once e = absurd (true≢false (sym e))
dashed_part (p ∷ ps) once e =
    let o = and_parts (not (is_given p.0 ps)) (is_once ps) once in
    go (is_dashed p) refl e o.0 (dashed_part ps o.1)
  where
    first : (f : Field) (b : Bool) → same f p.0 ≡ b → text_of f (p ∷ ps) ≡ (if b then Some p.1 else text_of f ps)
    first f true is = ap (λ c. option_map (λ (q : Part). q.1) (if c then Some p else find (λ q. same f q.0) ps)) is
    first f false is = ap (λ c. option_map (λ (q : Part). q.1) (if c then Some p else find (λ q. same f q.0) ps)) is

    here : is_dashed p ≡ true → Dashed (p ∷ ps)
    here d =
        let parts = and_parts (has_text p.0) _ d in
        let t = dash_text p.1 parts.1 in
        (p.0, t.0, parts.0, first p.0 true (same_refl p.0) ∙ ap Some t.1)

    later : not (is_given p.0 ps) ≡ true → Dashed ps → Dashed (p ∷ ps)
    later new x = (x.0, x.1, x.2, first x.0 false (false_from_ne_true (same x.0 p.0) other) ∙ x.3)
      where
        other : same x.0 p.0 ≡ true → ⊥
        other is =
            let again : is_given p.0 ps ≡ true = ap (λ f. is_given f ps) (sym (same_is x.0 p.0 is)) ∙ given_text x.0 (45 ∷ x.1) ps x.3 in
            true≢false (sym new ∙ not_from_true (is_given p.0 ps) again)

    go : (b : Bool) → is_dashed p ≡ b → (b || list_any is_dashed ps) ≡ true → not (is_given p.0 ps) ≡ true → (list_any is_dashed ps ≡ true → Dashed ps) → Dashed (p ∷ ps)
    go true d e new below = here d
    go false d e new below = later new (below e)

-- ---- the strict reading and `clap`'s

abbrev Undashed : Text → Type 0
Undashed word = (begins_with_dash word ≡ false) × (word_of word ≡ plain) × (kind word ≡ plain)

abbrev Lone : Text → Type 0
Lone word = (begins_with_dash word ≡ true) × (word_of word ≡ wrong) × (kind word ≡ plain)

abbrev Same : Text → Type 0
Same word = (begins_with_dash word ≡ true) × (word_of word ≡ kind word) × ((v : Valued) (o : Option (List Part)) → value_with (kind word) v word o ≡ None)

no_value : (o : Option Field) (t : Option Text) (v : Valued) (word : Text) (ps : Option (List Part)) → value_with (option_map_or (λ f. option_word f t) o wrong) v word ps ≡ None
no_value None t v word ps = refl
no_value (Some (value_of w)) None v word ps = refl
no_value (Some (value_of w)) (Some t) v word ps = refl
no_value (Some (flag g)) None v word ps = refl
no_value (Some (flag g)) (Some t) v word ps = refl
no_value (Some action) t v word ps = refl

no_value_after : (bs : Text) (v : Valued) (word : Text) (ps : Option (List Part)) → value_with (after_two bs) v word ps ≡ None
no_value_after [] v word ps = refl
no_value_after (b ∷ bs) v word ps = no_value (option_named (name_in (b ∷ bs))) (value_in (b ∷ bs)) v word ps

compared : (word : Text) → Undashed word ⊎ (Lone word ⊎ Same word)
compared [] = inl (refl, refl, refl)
compared (b ∷ bs) = go (b == 45) refl bs
  where
    short : (c : ℕ) (cs : Text) → (b == 45) ≡ true → (c == 45) ≡ false → (s : Bool) → is_some (slice_get (chars (c ∷ cs)) 0) ≡ s → Undashed (b ∷ c ∷ cs) ⊎ (Lone (b ∷ c ∷ cs) ⊎ Same (b ∷ c ∷ cs))
    short c cs e d true s = inr (inr (e, rw (e, d, s) refl, λ f o. rw (e, d, s) refl))
    short c cs e d false s = inr (inl (e, rw (e, d) refl, rw (e, d, s) refl))

    two : (c : ℕ) (cs : Text) → (b == 45) ≡ true → (d : Bool) → (c == 45) ≡ d → Undashed (b ∷ c ∷ cs) ⊎ (Lone (b ∷ c ∷ cs) ⊎ Same (b ∷ c ∷ cs))
    two c cs e true d = inr (inr (e, rw (e, d) refl, λ f o. rw (e, d) (no_value_after cs f (b ∷ c ∷ cs) o)))
    two c cs e false d = short c cs e d (is_some (slice_get (chars (c ∷ cs)) 0)) refl

    go : (x : Bool) → (b == 45) ≡ x → (bs : Text) → Undashed (b ∷ bs) ⊎ (Lone (b ∷ bs) ⊎ Same (b ∷ bs))
    go false e bs = inl (e, rw e refl, rw e refl)
    go true e [] = inr (inl (e, rw e refl, rw e refl))
    go true e (c ∷ cs) = two c cs e (c == 45) refl

abbrev IsDashed : Option (List Part) → Type 0
IsDashed None = Unit {0}
IsDashed (Some ps) = list_any is_dashed ps ≡ true

abbrev Agree : Option (List Part) → Option (List Part) → Type 0
Agree s l = (s ≡ l) ⊎ ((s ≡ None) × IsDashed l)

later_dashed : (x : Part) (l : Option (List Part)) → IsDashed l → IsDashed (joined x l)
later_dashed x None d = tt
later_dashed x (Some ps) d = or_right (is_dashed x) (list_any is_dashed ps) d

now_dashed : (x : Part) (l : Option (List Part)) → is_dashed x ≡ true → IsDashed (joined x l)
now_dashed x None d = tt
now_dashed x (Some ps) d = or_left (is_dashed x) (list_any is_dashed ps) d

agree_joined : (x : Part) (s l : Option (List Part)) → Agree s l → Agree (joined x s) (joined x l)
agree_joined x s l (inl e) = inl (ap (joined x) e)
agree_joined x s l (inr e) = inr (ap (joined x) e.0, later_dashed x l e.1)

agree_with : (k : Word) (word : Text) (rest : List Text) (s l : Option (List Part)) (s2 l2 : Valued → Option (List Part)) → Agree s l → ((v : Valued) → Agree (s2 v) (l2 v))
    → Agree (parts_with k word rest s s2) (parts_with k word rest l l2)
agree_with ending word rest s l s2 l2 a a2 = inl refl
agree_with (given p) word rest s l s2 l2 a a2 = agree_joined p s l a
agree_with (waiting v) word rest s l s2 l2 a a2 = a2 v
agree_with plain word rest s l s2 l2 a a2 = agree_joined (positional word) s l a
agree_with wrong word rest s l s2 l2 a a2 = inl refl

agree : (words : List Text) → Agree (parts_from None words) (lenient None words) × ((v : Valued) → Agree (parts_from (Some v) words) (lenient (Some v) words))
agree [] = (inl refl, λ v. inl refl)
agree (word ∷ rest) = let below = agree rest in (idle_case below.0 below.1 (compared word), λ v. wait_case below.0 v (compared word))
  where
    same_kind : word_of word ≡ kind word → Agree (parts_from None rest) (lenient None rest) → ((v : Valued) → Agree (parts_from (Some v) rest) (lenient (Some v) rest))
        → Agree (parts_from None (word ∷ rest)) (lenient None (word ∷ rest))
    same_kind e a a2 = subst (λ (k : Word). Agree (parts_with k word rest (parts_from None rest) (λ v. parts_from (Some v) rest)) (lenient None (word ∷ rest))) (sym e)
        (agree_with (kind word) word rest (parts_from None rest) (lenient None rest) (λ v. parts_from (Some v) rest) (λ v. lenient (Some v) rest) a a2)

    idle_case : Agree (parts_from None rest) (lenient None rest) → ((v : Valued) → Agree (parts_from (Some v) rest) (lenient (Some v) rest))
        → Undashed word ⊎ (Lone word ⊎ Same word) → Agree (parts_from None (word ∷ rest)) (lenient None (word ∷ rest))
    idle_case a a2 (inl x) = same_kind (x.1 ∙ sym x.2) a a2
    idle_case a a2 (inr (inl x)) = inr (
      ap (λ k. parts_with k word rest (parts_from None rest) (λ v. parts_from (Some v) rest)) x.1,
      subst (λ (k : Word). IsDashed (parts_with k word rest (lenient None rest) (λ v. lenient (Some v) rest))) (sym x.2) (now_dashed (positional word) (lenient None rest) x.0),
    )
    idle_case a a2 (inr (inr x)) = same_kind x.1 a a2

    wait_case : Agree (parts_from None rest) (lenient None rest) → (v : Valued) → Undashed word ⊎ (Lone word ⊎ Same word) → Agree (parts_from (Some v) (word ∷ rest)) (lenient (Some v) (word ∷ rest))
    wait_case a v (inl x) = rw (x.0, x.2) (agree_joined (value_of v, word) (parts_from None rest) (lenient None rest) a)
    wait_case a v (inr (inl x)) = inr (
      ap (λ b. if b then None else joined (value_of v, word) (parts_from None rest)) x.0,
      subst (λ (k : Word). IsDashed (value_with k v word (lenient None rest))) (sym x.2) (now_dashed (value_of v, word) (lenient None rest) x.0),
    )
    wait_case a v (inr (inr x)) = inl (ap (λ b. if b then None else joined (value_of v, word) (parts_from None rest)) x.0 ∙ sym (x.2 v (lenient None rest)))

dashed_none : (o : Option (List Part)) → IsDashed o → option_and_then job_in o ≡ None
dashed_none None d = refl
dashed_none (Some ps) d = go (is_once ps) refl
  where
    go : (b : Bool) → is_once ps ≡ b → job_in ps ≡ None
    go true e =
        let x = dashed_part ps e d in
        ap (λ b. if b then job_from ps else None) e ∙ dashed_field ps x.0 x.1 x.2 x.3
    go false e = ap (λ b. if b then job_from ps else None) e

lenient_job : (words : List Text) → job_of words ≡ option_and_then job_in (lenient None words)
lenient_job words = go (agree words).0
  where
    go : Agree (parts_from None words) (lenient None words) → job_of words ≡ option_and_then job_in (lenient None words)
    go (inl e) = ap (option_and_then job_in) e
    go (inr e) = ap (option_and_then job_in) e.0 ∙ sym (dashed_none (lenient None words) e.1)

-- ---- what `clap` answers, and the job

abbrev pub text_in : List Text → Field → Option Text
text_in words f = first_of (name_of f) (matches_of hpf_app words)

abbrev pub IsTaken : List Text → Type 0
IsTaken words = (b : Flag → Bool) × ((g : Flag) → one_of (name_of (flag g)) (matches_of hpf_app words) ≡ Some (if b g then codes "true" else codes "false"))
    × (job_of words ≡ job_by (text_in words action) (text_in words (value_of grid)) (text_in words (value_of threads)) (text_in words (value_of size)) (b arrays) (b fixed))

found : (words : List Text) (ps : List Part) → lenient None words ≡ Some ps → is_once ps ≡ true → rows_left words ≡ rows ps → IsTaken words
found words ps read once left =
    let m : matches_of hpf_app words ≡ all_rows (rows ps) = matches_are words ∙ ap all_rows left in
    let text : (f : Field) → first_of (name_of f) (all_rows (rows ps)) ≡ text_of f ps → text_of f ps ≡ text_in words f = λ f e. sym (ap (first_of (name_of f)) m ∙ e) in
    let act = text action (text_found action ps refl refl) in
    let extents = text (value_of grid) (text_found (value_of grid) ps refl refl) in
    let crews = text (value_of threads) (text_found (value_of threads) ps refl refl) in
    let order = text (value_of size) (text_found (value_of size) ps refl refl) in (
      λ g. is_given (flag g) ps,
      λ g. ap (one_of (name_of (flag g))) m ∙ flag_found g ps,
      lenient_job words ∙ ap (option_and_then job_in) read ∙ ap (λ b. if b then job_from ps else None) once
          ∙ (λ i. job_by (act i) (extents i) (crews i) (order i) (is_given (flag arrays) ps) (is_given (flag fixed) ps)),
    )

pub taken : (words : List Text) → fault_of hpf_app words ≡ [] → IsTaken words
taken words none = go (lenient None words) refl (walk_ends words)
  where
    go : (o : Option (List Part)) → lenient None words ≡ o → Ends start words [] o → IsTaken words
    go None read e = absurd (e (sym (fault_is words) ∙ none))
    go (Some ps) read (inl c) = found words ps read c.0 c.2
    go (Some ps) read (inr c) = absurd (c.1 (sym (fault_is words) ∙ none))

pub refused : (words : List Text) → Fails (fault_of hpf_app words) → job_of words ≡ None
refused words fails = lenient_job words ∙ go (lenient None words) (walk_ends words)
  where
    go : (o : Option (List Part)) → Ends start words [] o → option_and_then job_in o ≡ None
    go None e = refl
    go (Some ps) (inl c) = absurd (fails (fault_is words ∙ c.1))
    go (Some ps) (inr c) = ap (λ b. if b then job_from ps else None) c.0
