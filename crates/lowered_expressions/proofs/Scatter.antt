-- A parallel statement and its Verdict: the values first and then the stores, or the first fault in the order of tuples.
use Rattle.node_code.specs.Instructions.{NewMapping, Instruction}
use Rattle.code_meaning.specs.Instructions.{ArrayTable}
use Rattle.std.proofs.Common.{◌≡◌, ℕ, zero, suc, ◌+◌, ◌<◌, List, [], ◌∷◌, ◌++◌, map, length, ℤ, pos, nat_le, ◌==◌, ◌||◌, ◌&&◌, Bool, true, false, if◌then◌else◌, Option, Some, None, Result, Ok, Err, refl, sym, ap, ◌∙◌, arith, length-append, append_assoc, append-nil, slice_index_or, option_map}
use Rattle.std.specs.Bool.{⊤}
use Rattle.std.proofs.lemmas.Bool.{eqb-true}
use Rattle.std.proofs.lemmas.List.{length-map}
use Rattle.std.specs.List.{list_all}
use Rattle.array_meaning.specs.ArrayAssignments.{store_at}
use Rattle.array_meaning.specs.Elementals.{Elemental, Same, Selected, Operation, Elementals, NoOperand, Operand, value_at, values_at, operated, each}
use Rattle.array_meaning.specs.Faults.{Cause, Fault, ◌>>=◌, fails, at_tuple, with_more}
use Rattle.array_meaning.specs.Sections.{subscripts_at, space_size, is_space_in_limits, is_selection_in_limits, is_conformable}
use Rattle.array_meaning.specs.State.{State, array, element, element_place, if_in_bounds, stored, store_all}
use Rattle.array_meaning.specs.declared.faults.FaultKind.TheVariants.{Shape, SpaceLimit}
use Rattle.array_meaning.specs.declared.sections.Selection.{Selection}
use Rattle.array_meaning.specs.declared.sections.Store.{Store}
use Rattle.expression_rules.specs.declared.dims.Dim.{Dim}
use Rattle.array_meaning.specs.declared.limits.TheConstants.{MAX_TUPLES}
use Rattle.hpf_base.specs.ElementOrder.{product}
use Rattle.lowered_expressions.proofs.Goes.{Holds, holds-store}
use Rattle.lowered_expressions.proofs.Terms.{HoldsArrays}
use Rattle.machine_steps.specs.Instr.{Outcome}
use Rattle.machine_steps.specs.Space.{space_count}
use Rattle.machine_steps.specs.Machine.{effect_by, value_by}
use Rattle.lowered_expressions.proofs.Keeping.{IsOutcome}
use Rattle.storage.specs.Effect.{Effect, Skip, Put, Fail, scatter}
use Rattle.storage.specs.Storage.{Storage, Spot, read, row_of}
use Rattle.code_meaning.specs.Parallel.{fault_at, at_line, shape_of, outcome_of, reads_at, all_reads_at, value_by_reads, values_by_reads, spot_of, assigned_value}

-- a space_size has as many tuples as its shape says
pub space-size : (ns : List ℕ) (parts : List (List Selection)) (k : ℕ) → space_size ns parts ≡ Ok k → k ≡ product ns
space-size ns parts k e = by_tests (list_all (is_conformable ns) parts) (is_space_in_limits ns parts) e
  where
    by_tests : (t u : Bool) → (if t then (if u then Ok (product ns) else fails SpaceLimit) else fails Shape) ≡ Ok k → k ≡ product ns
    by_tests true true e = cc
    by_tests true false e = cc
    by_tests false u e = cc

-- and all of them are done
pub counted-if : (count : ℕ) (within : Bool) → (within ≡ false → (count == 0) ≡ true) → (if within then count else 0) ≡ count
counted-if count true h = refl
counted-if count false h = sym (eqb-true count 0 (h refl))

pub space-counted : (ns : List ℕ) (parts : List (List Selection)) (k : ℕ) → space_size ns parts ≡ Ok k → space_count ns ≡ product ns
space-counted ns parts k e = counted-if (product ns) (nat_le (product ns) MAX_TUPLES)
    (by_tests (list_all (is_conformable ns) parts) (product ns == 0) (nat_le (product ns) MAX_TUPLES) (list_all (list_all is_selection_in_limits) parts) e)
  where
    by_tests : (t u v w : Bool) → (if t then (if u || (v && w) then Ok (product ns) else fails SpaceLimit) else fails Shape) ≡ Ok k → v ≡ false → u ≡ true
    by_tests true true v w e f = refl
    by_tests true false true w e f = cc
    by_tests true false false w e f = cc
    by_tests false u v w e f = cc

-- what is stored at a tuple, as an effect
abbrev pub effect_for : ℕ → ℕ → Result (Option Store) Cause → Effect Fault
effect_for line a (Ok None) = Skip
effect_for line a (Ok (Some st)) = Put (record { row = a; at = st.place }) st.value
effect_for line a (Err c) = Fail (fault_at line c)

-- what a tuple comes to on the machine is what is stored there
abbrev pub Does : ℕ → ℕ → Option Spot → Outcome Fault → Result (Option Store) Cause → Type 0
Does line a left o q = (effect_by left o ≡ effect_for line a q) × IsOutcome line o q

store-last : (s : State) (a : ℕ) (stores : List (Option Store)) (v : Option Store) → store_all s a (stores ++ v ∷ []) ≡ stored a (store_all s a stores) v
store-last s a [] v = refl
store-last s a (w ∷ stores) v = store-last (stored a s w) a stores v

module _ (table : ArrayTable) (row_count : ℕ) (moves : ℕ → List NewMapping) (code : List Instruction) (n many : ℕ) (copy : Option (List ℤ)) (line a : ℕ) (la : a < n) (s : State) (slots : List ℤ) (rows : Storage)
    (holds : Holds table row_count moves code n many copy s slots rows) (effect : ℕ → Effect Fault) where
  -- the rows after the first tuples, by the meaning's results
  abbrev pub Scattered : Result (List (Option Store)) Cause → ℕ → Type 0
  Scattered (Ok stores) t = Holds table row_count moves code n many copy (store_all s a stores) slots (scatter effect t rows)
  Scattered (Err c) t = ⊤

  one-more : (t : ℕ) (r : Result (List (Option Store)) Cause) (q : Result (Option Store) Cause) → effect t ≡ effect_for line a q → Scattered r t
      → Scattered (r >>= (λ vs. q >>= (λ v. Ok (vs ++ v ∷ [])))) (suc t)
  one-more t (Ok vs) (Ok None) e h = rw (e, store-last s a vs None) h
  one-more t (Ok vs) (Ok (Some st)) e h = rw (e, store-last s a vs (Some st))
      (holds-store table row_count moves code n many copy (store_all s a vs) slots (scatter effect t rows) a st.place st.value la h)
  one-more t (Ok vs) (Err c) e h = tt
  one-more t (Err c) q e h = tt

  pub scattered : (tuple : ℕ → List ℤ) (f : ℕ → Result (Option Store) Cause) (t : ℕ) → ((u : ℕ) → u < t → effect u ≡ effect_for line a (at_tuple (tuple u) (f u)))
      → Scattered (each tuple f t) t
  scattered tuple f zero h = holds
  scattered tuple f (suc t) h = one-more t (each tuple f t) (at_tuple (tuple t) (f t)) (h t (omega arith)) (scattered tuple f t (λ u lt. h u (omega (arith, lt))))

-- the values of reads
abbrev pub values_of : Storage → List (Option Spot) → List ℤ
values_of rows reads = map (value_by (read rows)) reads

pub values-append : (rows : Storage) (xs ys : List (Option Spot)) → values_of rows (xs ++ ys) ≡ values_of rows xs ++ values_of rows ys
values-append rows [] ys = refl
values-append rows (x ∷ xs) ys = ap (λ vs. value_by (read rows) x ∷ vs) (values-append rows xs ys)

pub value-here : (pre : List ℤ) (v : ℤ) (post : List ℤ) → slice_index_or (pre ++ v ∷ post) (length pre) (pos 0) ≡ v
value-here [] v post = refl
value-here (w ∷ pre) v post = value-here pre v post

-- the arrays that a prepared expression names
abbrev mutual
  pub NamesBelow : ℕ → Elemental → Type 0
  NamesBelow n (Same v) = Unit {0}
  NamesBelow n (Selected a ds) = a < n
  NamesBelow n (Operation o rs) = AllNameBelow n rs

  pub AllNameBelow : ℕ → Elementals → Type 0
  AllNameBelow n NoOperand = Unit {0}
  AllNameBelow n (Operand r rs) = NamesBelow n r × AllNameBelow n rs

module _ (n : ℕ) (shapes : List (List Dim)) (s : State) (rows : Storage) (arrays : HoldsArrays n shapes s rows) (x : List ℤ) where
  read-element : (a : ℕ) (subscripts : List ℤ) (pre : List ℤ) (post : List ℤ) → a < n
      → (if_in_bounds (element_place (shape_of shapes a) subscripts) >>=
      (λ k. Ok (slice_index_or (pre ++ value_by (read rows) (spot_of shapes a subscripts) ∷ post) (length pre) (pos 0)))) ≡ element s a subscripts
  read-element a subscripts pre post lt = rw (sym (arrays.shape a lt)) (by_place (element_place (array s a).dims subscripts))
    where
      by_place : (p : Option ℕ)
          → (if_in_bounds p >>= (λ k. Ok (slice_index_or (pre ++ value_by (read rows) (option_map (λ k. record { row = a; at = k }) p) ∷ post) (length pre) (pos 0))))
          ≡ (if_in_bounds p >>= (λ k. Ok (slice_index_or (array s a).elements k (pos 0))))
      by_place None = refl
      by_place (Some k) = ap Ok (value-here pre (slice_index_or (row_of rows a) k (pos 0)) post ∙ ap (λ r. slice_index_or r k (pos 0)) (arrays.elements a lt))

  mutual
    pub value-of-reads : (r : Elemental) (pre post : List ℤ) → NamesBelow n r → value_by_reads shapes x (pre ++ (values_of rows (reads_at shapes x r) ++ post)) (length pre) r
        ≡ value_at s x r
    value-of-reads (Same v) pre post ok = refl
    value-of-reads (Selected a ds) pre post ok = read-element a (subscripts_at ds x) pre post ok
    value-of-reads (Operation o rs) pre post ok = ap (λ r. r >>= operated o) (values-of-reads rs pre post ok)

    pub values-of-reads : (rs : Elementals) (pre post : List ℤ) → AllNameBelow n rs → values_by_reads shapes x (pre ++ (values_of rows (all_reads_at shapes x rs) ++ post))
        (length pre) rs ≡ values_at s x rs
    values-of-reads NoOperand pre post ok = refl
    values-of-reads (Operand r rs) pre post ok =
        let xs = values_of rows (reads_at shapes x r) in
        let ys = values_of rows (all_reads_at shapes x rs) in
        let split : pre ++ (values_of rows (reads_at shapes x r ++ all_reads_at shapes x rs) ++ post) ≡ pre ++ (xs ++ (ys ++ post)) = ap (λ vs. pre ++ (vs ++ post))
        (values-append rows (reads_at shapes x r) (all_reads_at shapes x rs)) ∙ ap (λ vs. pre ++ vs) (append_assoc xs ys post) in
        let split2 : pre ++ (xs ++ (ys ++ post)) ≡ (pre ++ xs) ++ (ys ++ post) = sym (append_assoc pre xs (ys ++ post)) in
        let from : length pre + length (reads_at shapes x r) ≡ length (pre ++ xs) = ap (λ k. length pre + k) (sym (length-map (reads_at shapes x r) (value_by (read rows))))
        ∙ sym (length-append pre xs) in
        let first = value-of-reads r pre (ys ++ post) ok.0 in
        let others = values-of-reads rs (pre ++ xs) post ok.1 in
        ap (λ vs. with_more (value_by_reads shapes x vs (length pre) r) (values_by_reads shapes x vs (length pre + length (reads_at shapes x r)) rs)) split
        ∙ ap (λ q. with_more q (values_by_reads shapes x (pre ++ (xs ++ (ys ++ post))) (length pre + length (reads_at shapes x r)) rs)) first
        ∙ ap (λ q. with_more (value_at s x r) q)
        (ap (λ vs. values_by_reads shapes x vs (length pre + length (reads_at shapes x r)) rs) split2 ∙ ap (λ k. values_by_reads shapes x ((pre ++ xs) ++ (ys ++ post)) k rs)
        from ∙ others)

  -- what the machine does where the mask is true is what the meaning stores there
  pub tuple-does : (line a : ℕ) (ds : List Selection) (r : Elemental) (pre : List ℤ) → a < n → NamesBelow n r
      → Does line a (spot_of shapes a (subscripts_at ds x))
      (outcome_of (at_line line (assigned_value shapes a ds r x (pre ++ values_of rows (reads_at shapes x r)) (length pre))))
      (at_tuple x (store_at s a (subscripts_at ds x) (value_at s x r)))
  tuple-does line a ds r pre lt ok =
      let values : value_by_reads shapes x (pre ++ values_of rows (reads_at shapes x r)) (length pre) r
      ≡ value_at s x r = ap (λ vs. value_by_reads shapes x (pre ++ vs) (length pre) r) (sym (append-nil (values_of rows (reads_at shapes x r))))
      ∙ value-of-reads r pre [] ok in
      rw (sym (arrays.shape a lt), values) (by_place (element_place (array s a).dims (subscripts_at ds x)) (value_at s x r))
    where
      by_place : (p : Option ℕ) (q : Result ℤ Cause) → Does line a (option_map (λ k. record { row = a; at = k }) p)
          (outcome_of (at_line line (at_tuple x (if_in_bounds p >>= (λ k. q))))) (at_tuple x (if_in_bounds p >>= (λ k. q >>= (λ v. Ok (Some (record { place = k; value = v }))))))
      by_place None q = (refl, refl)
      by_place (Some k) (Ok v) = (refl, λ t. refl)
      by_place (Some k) (Err c) = (refl, refl)
