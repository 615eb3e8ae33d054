-- Values stored at places that follow one another.
use Rattle.std.proofs.Common.{◌≡◌, ℕ, suc, ◌+◌, ◌-◌, ◌<◌, ◌≤◌, ◌⊎◌, inl, inr, min, ℤ, List, [], ◌∷◌, ◌++◌, length, set, take, drop, refl, sym, ◌∙◌, ap, arith, add-one, get_or}
use Rattle.std.proofs.lemmas.Bool.{cases_lt}
use Rattle.std.proofs.lemmas.List.{drop_all, get_or-set_same, get_or_read, length-set, length-take, set-get_or, set-set, set_past, take-append-drop, take_all}
use Rattle.std.proofs.lemmas.List.Edits.{sets, sets-eq}
use Rattle.std.proofs.lemmas.Slice.{put_mid-paste}
use Rattle.array_meaning.specs.State.{Array, State, array, no_array, store}
use Rattle.term_values.specs.Runs.{store_run, with_run}
use borrow.Rule.Slice.PartMut.{put_mid}

-- ---- in a list

-- past the end nothing is put
pub with_run-past : (xs : List ℤ) (first : ℕ) (values : List ℤ) → length xs ≤ first → with_run xs first values ≡ xs
with_run-past xs first [] past = refl
with_run-past xs first (v ∷ values) past =
    ap (λ l. with_run l (first + 1) values) (set_past xs first v past) ∙ with_run-past xs (first + 1) values (omega (arith, past))

with_run-append : (xs : List ℤ) (first : ℕ) (one other : List ℤ)
    → with_run xs first (one ++ other) ≡ with_run (with_run xs first one) (first + length one) other
with_run-append xs first [] other = let here : first ≡ first + 0 = omega arith in ap (λ n. with_run xs n other) here
with_run-append xs first (v ∷ one) other =
    with_run-append (set xs first v) (first + 1) one other ∙ ap (λ n. with_run (with_run (set xs first v) (first + 1) one) n other) (further (length one))
  where
    further : (n : ℕ) → first + 1 + n ≡ first + suc n
    further n = omega arith

length-with_run : (xs : List ℤ) (first : ℕ) (values : List ℤ) → length (with_run xs first values) ≡ length xs
length-with_run xs first [] = refl
length-with_run xs first (v ∷ values) = length-with_run (set xs first v) (first + 1) values ∙ length-set xs first v

with_run-sets : (xs : List ℤ) (first : ℕ) (values : List ℤ) → with_run xs first values ≡ sets xs first values
with_run-sets xs first [] = refl
with_run-sets xs first (v ∷ values) = with_run-sets (set xs first v) (first + 1) values ∙ ap (λ n. sets (set xs first v) n values) (add-one first)

-- as many as have a place are put at once
pub with_run-copied : (xs new values : List ℤ) (first count end : ℕ) → first < length xs → count ≡ min (length values) (length xs - first) → end ≡ count
    → new ≡ take count values → put_mid first end xs new ≡ with_run xs first values
with_run-copied xs new values first count end within many ends is =
    put_mid-paste first end xs new front count is (omega (arith, ends)) (sym long)
    ∙ ap (λ l. take first xs ++ l ++ drop (first + count) xs) (take_all count front (omega (arith, long)))
    ∙ ap (λ n. take first xs ++ front ++ drop (first + n) xs) (sym long)
    ∙ sym (with_run-sets xs first front ∙ sets-eq front xs first (omega (arith, long, many, within)))
    ∙ sym left
    ∙ sym (with_run-append xs first front (drop count values)) ∙ ap (with_run xs first) (take-append-drop count values)
  where
    front : List ℤ
    front = take count values

    long : length front ≡ count
    long = length-take count values ∙ omega (arith, many)

    by_case : (length xs - first < length values) ⊎ (length values ≤ length xs - first)
        → with_run (with_run xs first front) (first + length front) (drop count values) ≡ with_run xs first front
    by_case (inr few) = ap (with_run (with_run xs first front) (first + length front)) (drop_all count values (omega (arith, many, few)))
    by_case (inl more) = with_run-past _ _ (drop count values) (omega (arith, length-with_run xs first front, long, many, more, within))

    left : with_run (with_run xs first front) (first + length front) (drop count values) ≡ with_run xs first front
    left = by_case (cases_lt (length xs - first) (length values))

-- ---- in an array

-- where there is no such array, nothing is stored
pub run_past : (s : State) (a first : ℕ) (values : List ℤ) → length s.arrays ≤ a → store_run s a first values ≡ s
run_past s a first [] past = refl
run_past s a first (v ∷ values) past =
    ap (λ s. store_run s a (first + 1) values) (ap (λ l. record s { arrays = l }) (set_past s.arrays a (record (array s a) { elements = set (array s a).elements first v }) past))
    ∙ run_past s a (first + 1) values past

-- where it is, all are stored among its elements
run_there : (s : State) (a first : ℕ) (values : List ℤ) → a < length s.arrays
    → record s { arrays = set s.arrays a (record (array s a) { elements = with_run (array s a).elements first values }) } ≡ store_run s a first values
run_there s a first [] there = ap (λ l. record s { arrays = l }) (set-get_or s.arrays a no_array)
run_there s a first (v ∷ values) there =
    sym (ap (λ y. record s { arrays = set (set s.arrays a x) a (rest y) }) (get_or-set_same s.arrays a x no_array there) ∙ ap (λ l. record s { arrays = l }) (set-set s.arrays a x (rest x)))
    ∙ run_there (store s a first v) a (first + 1) values (omega (arith, there, length-set s.arrays a x))
  where
    x : Array
    x = record (array s a) { elements = set (array s a).elements first v }

    rest : Array → Array
    rest y = record y { elements = with_run y.elements (first + 1) values }

-- where its elements so changed are put back
pub run_put : (s : State) (a first : ℕ) (values : List ℤ) (old new : Array) → a < length s.arrays → old ≡ get_or s.arrays a old
    → new ≡ record old { elements = with_run old.elements first values } → record s { arrays = set s.arrays a new } ≡ store_run s a first values
run_put s a first values old new there is put =
    let whole : new ≡ record (array s a) { elements = with_run (array s a).elements first values } =
    put ∙ ap (λ (x : Array). let y : Array = record x { elements = with_run x.elements first values } in y) (get_or_read s.arrays a old there is no_array) in
    ap (λ (y : Array). let t : State = record s { arrays = set s.arrays a y } in t) whole ∙ run_there s a first values there
