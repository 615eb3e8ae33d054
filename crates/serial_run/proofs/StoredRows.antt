-- Stores by rows.
use Rattle.std.proofs.Common.{◌≡◌, ℕ, zero, suc, ◌+◌, ◌-◌, ◌*◌, ◌/◌, ◌%◌, ◌<◌, ◌≤◌, List, [], ◌∷◌, ◌++◌, length, min, take, drop, ℤ, pos, true, refl, ap, sym, subst, ◌∙◌, arith, Some, Ok}
use Rattle.std.specs.Prelude.{slice_index_or}
use Rattle.std.proofs.lemmas.Nat.{div-mul-add, mod-mul-add}
use Rattle.std.proofs.lemmas.List.{get_or-drop, length-drop, length-take, take_more}
use Rattle.std.proofs.lemmas.List.FromFn.{map-range_with_len_more}
use Rattle.array_meaning.specs.Elementals.{Elemental, each, value_at}
use Rattle.array_meaning.specs.Faults.{◌>>=◌}
use Rattle.array_meaning.specs.Sections.{positions}
use Rattle.array_meaning.specs.State.{State, store}
use Rattle.array_meaning.specs.declared.sections.Selection.{Selection}
use Rattle.array_meaning.specs.declared.sections.Store.{Store}
use Rattle.term_values.specs.Runs.{store_run}
use Rattle.strips.specs.Places.{AreRuns, row_length}
use Rattle.strip_operators.specs.Strips.{IsStrip}
use Rattle.strips.specs.Strips.{space_value}
use Rattle.serial_run.specs.RowStores.{row_store, stores_below}
use Rattle.serial_run.specs.SectionStores.{kept_of, masked_store, stored_each}
use Rattle.serial_run.proofs.Stores.{keep_next}

-- one store more
more_below : (firsts : List ℕ) (n : ℕ) (values : List ℤ) (t : ℕ) → stores_below firsts n values (t + 1) ≡ stores_below firsts n values t ++ row_store firsts n values t ∷ []
more_below firsts n values t = let at : 0 + t ≡ t = omega arith in map-range_with_len_more (row_store firsts n values) 0 t t at

-- ---- what is kept

module _ (s : State) (ns : List ℕ) (a : ℕ) (ds : List Selection) (x : Elemental) (firsts : List ℕ) (values : List ℤ) (n : ℕ) where
  rows_below : AreRuns s ns a ds n firsts → IsStrip (space_value s ns x) n values → (k : ℕ) → k ≤ n
      → kept_of (each (positions ns) (masked_store s ns (λ t. true) a ds x) k) ≡ Ok (stores_below firsts (row_length ns) values k)
  rows_below runs strip zero le = refl
  rows_below runs strip (suc k) le =
      let lt : k < n = omega (arith, le) in
      let next : k + 1 ≡ suc k = omega arith in
      let p : ℕ = slice_index_or firsts (k / row_length ns) 0 + k % row_length ns in
      let v : ℤ = slice_index_or values k (pos 0) in
      let here : masked_store s ns (λ t. true) a ds x k ≡ Ok (Some (row_store firsts (row_length ns) values k)) =
      ap (λ r. r >>= (λ p. value_at s (positions ns k) x >>= (λ v. Ok (Some record { place = p; value = v })))) (runs k lt)
      ∙ ap (λ r. r >>= (λ v. Ok (Some record { place = slice_index_or firsts (k / row_length ns) 0 + k % row_length ns; value = v }))) (strip.1 k lt) in
      subst (λ m. kept_of (each (positions ns) (masked_store s ns (λ t. true) a ds x) m) ≡ Ok (stores_below firsts (row_length ns) values m)) next
      (keep_next (positions ns) (masked_store s ns (λ t. true) a ds x) k (stores_below firsts (row_length ns) values k) (stores_below firsts (row_length ns) values (k + 1))
      (rows_below runs strip k (omega (arith, le))) (Some (row_store firsts (row_length ns) values k), here, more_below firsts (row_length ns) values k))

  pub rows_kept : (last : ℕ) → suc last ≡ row_length ns → AreRuns s ns a ds n firsts → IsStrip (space_value s ns x) n values
      → kept_of (each (positions ns) (masked_store s ns (λ t. true) a ds x) n) ≡ Ok (stores_below firsts (suc last) values (length values))
  rows_kept last is runs strip =
      rows_below runs strip n (omega arith)
      ∙ ap (λ m. Ok (stores_below firsts m values n)) (sym is)
      ∙ ap (λ k. Ok (stores_below firsts (suc last) values k)) (sym strip.0)

-- ---- one row more

stored_more : (a : ℕ) (stores : List Store) (st : Store) (s : State) → stored_each s a (stores ++ st ∷ []) ≡ store (stored_each s a stores) a st.place st.value
stored_more a [] st s = refl
stored_more a (x ∷ stores) st s = stored_more a stores st (store s a x.place x.value)

-- a value after those of a run is stored at the place after theirs
run_more : (s : State) (a first : ℕ) (values : List ℤ) (v : ℤ) → store_run s a first (values ++ v ∷ []) ≡ store (store_run s a first values) a (first + length values) v
run_more s a first [] v = let here : first ≡ first + 0 = omega arith in ap (λ n. store s a n v) here
run_more s a first (x ∷ values) v =
    run_more (store s a first x) a (first + 1) values v ∙ ap (λ n. store (store_run (store s a first x) a (first + 1) values) a n v) (further (length values))
  where
    further : (n : ℕ) → first + 1 + n ≡ first + suc n
    further n = omega arith

module _ (s : State) (a n row : ℕ) (firsts : List ℕ) (values : List ℤ) where
  -- what is stored before the row
  abbrev before : State
  before = stored_each s a (stores_below firsts n values (row * n))

  -- the values of the row
  abbrev those : List ℤ
  those = drop (row * n) values

  -- the first tuples of a row are stored as a run
  row_run : (k : ℕ) → k ≤ n → row * n + k ≤ length values
      → stored_each s a (stores_below firsts n values (row * n + k)) ≡ store_run before a (slice_index_or firsts row 0) (take k those)
  row_run zero short within = let none : row * n + 0 ≡ row * n = omega arith in ap (λ t. stored_each s a (stores_below firsts n values t)) none
  row_run (suc k) short within =
      let lt : k < n = omega (arith, short) in
      let fewer : row * n + k ≤ length values = omega (arith, within) in
      let next : row * n + suc k ≡ (row * n + k) + 1 = omega arith in
      let one : k + 1 ≡ suc k = omega arith in
      let long : k ≡ length (take k those) = omega (arith, length-take k those, length-drop (row * n) values, within) in
      let inside : k < length those = omega (arith, length-drop (row * n) values, within) in
      let first : ℕ = slice_index_or firsts row 0 in
      let v : ℤ = slice_index_or values (row * n + k) (pos 0) in
      ap (λ t. stored_each s a (stores_below firsts n values t)) next
      ∙ ap (stored_each s a) (more_below firsts n values (row * n + k))
      ∙ stored_more a (stores_below firsts n values (row * n + k)) (row_store firsts n values (row * n + k)) s
      ∙ ap (λ s. store s a (slice_index_or firsts ((row * n + k) / n) 0 + (row * n + k) % n) v) (row_run k (omega (arith, lt)) fewer)
      ∙ ap (λ r. store (store_run before a first (take k those)) a (slice_index_or firsts r 0 + (row * n + k) % n) v) (div-mul-add row n k lt)
      ∙ ap (λ p. store (store_run before a first (take k those)) a (first + p) v) (mod-mul-add row n k lt ∙ long)
      ∙ sym (run_more before a first (take k those) v)
      ∙ ap (λ v. store_run before a first (take k those ++ v ∷ [])) (sym (get_or-drop (row * n) values k (pos 0)))
      ∙ ap (store_run before a first) (sym (take_more those k (pos 0) inside))
      ∙ ap (λ k. store_run before a first (take k those)) one

-- the stores of the tuples before a row, and then its values in one run
pub row_stored : (s now after : State) (a last row start count first : ℕ) (firsts : List ℕ) (values : List ℤ)
    → now ≡ stored_each s a (stores_below firsts (suc last) values start) → start ≡ min (length values) (row * suc last) → start < length values
    → count ≡ min (suc last) (length values - start) → first ≡ slice_index_or firsts row 0
    → after ≡ store_run now a first (take (start + count - start) (drop start values))
    → after ≡ stored_each s a (stores_below firsts (suc last) values (start + count))
row_stored s now after a last row start count first firsts values stored at within many begins run =
    run
    ∙ ap (λ k. store_run now a first (take k (drop start values))) (omega arith)
    ∙ ap (λ s. store_run s a first (take count (drop start values))) stored
    ∙ ap (λ f. store_run (stored_each s a (stores_below firsts (suc last) values start)) a f (take count (drop start values))) begins
    ∙ ap (λ t. store_run (stored_each s a (stores_below firsts (suc last) values t)) a (slice_index_or firsts row 0) (take count (drop t values))) here
    ∙ sym (row_run s a (suc last) row firsts values count (omega (arith, many)) (omega (arith, many, here, within)))
    ∙ ap (λ t. stored_each s a (stores_below firsts (suc last) values (t + count))) (sym here)
  where
    here : start ≡ row * suc last
    here = omega (arith, at, within)
