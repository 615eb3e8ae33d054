-- A parallel statement that stores in an array, at the tuples at which a mask is true, and its Verdict.
use Rattle.node_code.specs.Instructions.{NewMapping, Instruction, Verdict}
use Rattle.code_meaning.specs.Instructions.{ArrayTable, meaning_of}
use Rattle.std.proofs.Common.{◌≡◌, ℕ, ◌+◌, ◌<◌, List, [], ◌∷◌, ◌++◌, length, ℤ, Bool, true, false, Option, Some, None, Result, Ok, Err, refl, sym, ap, ◌∙◌, subst}
use Rattle.std.proofs.lemmas.List.{length-map}
use Rattle.expression_rules.specs.declared.dims.Dim.{Dim}
use Rattle.storage.specs.Storage.{Storage, Spot, read}
use Rattle.storage.specs.Effect.{Effect, scatter}
use Rattle.array_meaning.specs.Faults.{Cause, Fault, ◌>>=◌, at_tuple}
use Rattle.array_meaning.specs.State.{State, stored, store_all}
use Rattle.array_meaning.specs.Runs.{normal, one_step}
use Rattle.array_meaning.specs.declared.sections.Selection.{Selection}
use Rattle.array_meaning.specs.declared.sections.Store.{Store}
use Rattle.array_meaning.specs.Sections.{subscripts_at}
use Rattle.array_meaning.specs.Elementals.{Elemental, value_at, each}
use Rattle.array_meaning.specs.ArrayAssignments.{store_at, if_true}
use Rattle.machine_steps.specs.Instr as instr
use Rattle.machine_steps.specs.Instr.{Outcome, Tuples}
use Rattle.machine_steps.specs.Machine as machine
use Rattle.machine_steps.specs.Machine.{effect_of, value_by}
use Rattle.node_code.specs.Parallel.{When}
use Rattle.code_meaning.specs.Parallel.{fault_at, at_line, outcome_if, mask_reads, is_asked, spot_of, reads_at, assigned_value}
use Rattle.statement_trail.specs.Trail.{Trail}
use Rattle.lowered_expressions.specs.Passed.{note, IsTrail}
use Rattle.lowered_expressions.proofs.Reach.{HasAt, Reaches, stands}
use Rattle.lowered_expressions.proofs.Terms.{HoldsArrays}
use Rattle.lowered_expressions.proofs.Goes.{Holds, kept-refl, Goes}
use Rattle.lowered_expressions.proofs.Keeping.{Keeps, keeps}
use Rattle.lowered_expressions.proofs.Scatter.{Does, Scattered, scattered, values_of, values-append, NamesBelow, tuple-does}
use Rattle.lowering.proofs.Pars.{par-passes, par-reaches, par-stops}

-- stores print nothing
pub stores-print : (s : State) (a : ℕ) (stores : List (Option Store)) → (store_all s a stores).printed ≡ s.printed
stores-print s a [] = refl
stores-print s a (None ∷ stores) = stores-print s a stores
stores-print s a (Some st ∷ stores) = stores-print (stored a s (Some st)) a stores

module _ (n : ℕ) (shapes : List (List Dim)) (s : State) (rows : Storage) (arrays : HoldsArrays n shapes s rows) (x : List ℤ) (line a : ℕ) (ds : List Selection) (r : Elemental)
    (when : Option When) (t : ℕ) (chosen : Bool) (la : a < n) (named : NamesBelow n r)
    (mask : (values : List ℤ) → is_asked when (values_of rows (mask_reads when t) ++ values) ≡ chosen) where
  abbrev by_values : List ℤ → ℕ → Outcome Fault
  by_values values from = outcome_if (is_asked when values) (at_line line (assigned_value shapes a ds r x values from))

  -- what the machine does at a tuple is what the meaning stores there
  pub masked-does : Does line a (spot_of shapes a (subscripts_at ds x)) (by_values (values_of rows (mask_reads when t ++ reads_at shapes x r)) (length (mask_reads when t)))
      (at_tuple x (if_true chosen (store_at s a (subscripts_at ds x) (value_at s x r))))
  masked-does =
      let front = values_of rows (mask_reads when t) in
      let back = values_of rows (reads_at shapes x r) in
      let here : by_values (values_of rows (mask_reads when t ++ reads_at shapes x r)) (length (mask_reads when t))
      ≡ outcome_if chosen (at_line line (assigned_value shapes a ds r x (front ++ back) (length front))) =
      ap (λ vs. by_values vs (length (mask_reads when t))) (values-append rows (mask_reads when t) (reads_at shapes x r))
      ∙ ap (by_values (front ++ back)) (sym (length-map (mask_reads when t) (value_by (read rows))))
      ∙ ap (λ b. outcome_if b (at_line line (assigned_value shapes a ds r x (front ++ back) (length front)))) (mask back) in
      subst (λ o. Does line a (spot_of shapes a (subscripts_at ds x)) o (at_tuple x (if_true chosen (store_at s a (subscripts_at ds x) (value_at s x r))))) (sym here)
      (by_chosen chosen)
    where
      by_chosen : (b : Bool) → Does line a (spot_of shapes a (subscripts_at ds x))
          (outcome_if b (at_line line
          (assigned_value shapes a ds r x (values_of rows (mask_reads when t) ++ values_of rows (reads_at shapes x r)) (length (values_of rows (mask_reads when t))))))
          (at_tuple x (if_true b (store_at s a (subscripts_at ds x) (value_at s x r))))
      by_chosen true = tuple-does n shapes s rows arrays x line a ds r (values_of rows (mask_reads when t)) la named
      by_chosen false = (refl, λ t. refl)

module _ (table : ArrayTable) (row_count : ℕ) (moves : ℕ → List NewMapping) (code : List Instruction) (n many : ℕ) (copy : Option (List ℤ)) (leave again : ℕ) (par : Instruction) (tuples : Tuples Fault)
    (left : List ℤ → ℕ → Option Spot) (is : meaning_of table par ≡ instr.Par tuples left)
    (line a b pc : ℕ) (la : a < n) (has : HasAt code pc (par ∷ Verdict ∷ [])) (slots : List ℤ) (rows : Storage) (s : State) (holds : Holds table row_count moves code n many copy s slots rows)
    (count : ℕ) (sized : tuples.count slots ≡ count)
    (tuple : ℕ → List ℤ) (f : ℕ → Result (Option Store) Cause)
    (does : (t : ℕ) → t < count → Does line a (left slots t) (machine.outcome_of tuples slots (read rows) t) (at_tuple (tuple t) (f t)))
    (T : Trail) (those : IsTrail moves (note par slots) T) where
  abbrev outcome : ℕ → Outcome Fault
  outcome = machine.outcome_of tuples slots (read rows)

  abbrev effect : ℕ → Effect Fault
  effect = effect_of tuples left slots (read rows)

  -- all values are taken, and then stored; or the first fault ends the run
  pub stores-go : Goes table row_count moves code n many copy leave again T (pc + 2) b slots (stands table row_count moves code pc slots rows s.printed)
      (one_step line s (each tuple f count >>= (λ stores. Ok (store_all s a stores))))
  stores-go = by_each (each tuple f count) (scattered table row_count moves code n many copy line a la s slots rows holds effect tuple f count (λ u lt. (does u lt).0))
      (keeps line outcome tuple f count (λ u lt. (does u lt).1))
    where
      by_each : (q : Result (List (Option Store)) Cause) → Scattered table row_count moves code n many copy line a la s slots rows holds effect q count → Keeps line outcome q count
          → Goes table row_count moves code n many copy leave again T (pc + 2) b slots (stands table row_count moves code pc slots rows s.printed) (one_step line s (q >>= (λ stores. Ok (store_all s a stores))))
      by_each (Ok stores) h kept = (
        slots,
        scatter effect count rows,
        out (par-reaches table row_count moves code n par tuples left pc slots rows s.printed is has count sized T those kept),
        kept-refl table row_count moves code n many copy b
            slots,
        h,
      )
        where
          out : Reaches table row_count moves code T (stands table row_count moves code pc slots rows s.printed) (stands table row_count moves code (pc + 2) slots (scatter effect count rows) s.printed)
              → Reaches table row_count moves code T (stands table row_count moves code pc slots rows s.printed) (stands table row_count moves code (pc + 2) slots (scatter effect count rows) (store_all s a stores).printed)
          out reach = subst (λ o. Reaches table row_count moves code T (stands table row_count moves code pc slots rows s.printed) (stands table row_count moves code (pc + 2) slots (scatter effect count rows) o))
              (sym (stores-print s a stores)) reach
      by_each (Err c) h kept = par-stops table row_count moves code n par tuples left pc slots rows s.printed is has count sized T those (fault_at line c) kept

-- ---- a parallel statement without a Verdict, which has no fault

module _ (table : ArrayTable) (row_count : ℕ) (moves : ℕ → List NewMapping) (code : List Instruction) (n many : ℕ) (copy : Option (List ℤ)) (leave again : ℕ)
    (par : Instruction) (tuples : Tuples Fault)
    (left : List ℤ → ℕ → Option Spot) (is : meaning_of table par ≡ instr.Par tuples left)
    (line a b pc : ℕ) (la : a < n) (has : HasAt code pc (par ∷ [])) (slots : List ℤ) (rows : Storage) (s : State)
    (holds : Holds table row_count moves code n many copy s slots rows)
    (count : ℕ) (sized : tuples.count slots ≡ count)
    (tuple : ℕ → List ℤ) (f : ℕ → Result (Option Store) Cause)
    (does : (t : ℕ) → t < count → Does line a (left slots t) (machine.outcome_of tuples slots (read rows) t) (at_tuple (tuple t) (f t)))
    (T : Trail) (those : IsTrail moves (note par slots) T) where
  abbrev passed_outcome : ℕ → Outcome Fault
  passed_outcome = machine.outcome_of tuples slots (read rows)

  abbrev passed_effect : ℕ → Effect Fault
  passed_effect = effect_of tuples left slots (read rows)

  pub passes-go : (next : State) → (each tuple f count >>= (λ stores. Ok (store_all s a stores))) ≡ Ok next
      → Goes table row_count moves code n many copy leave again T (pc + 1) b slots (stands table row_count moves code pc slots rows s.printed) (normal next)
  passes-go next = by_each (each tuple f count) (scattered table row_count moves code n many copy line a la s slots rows holds passed_effect tuple f count
      (λ u lt. (does u lt).0))
      (keeps line passed_outcome tuple f count (λ u lt. (does u lt).1))
    where
      by_each : (q : Result (List (Option Store)) Cause) → Scattered table row_count moves code n many copy line a la s slots rows holds passed_effect q count
          → Keeps line passed_outcome q count
          → (q >>= (λ stores. Ok (store_all s a stores))) ≡ Ok next
          → Goes table row_count moves code n many copy leave again T (pc + 1) b slots (stands table row_count moves code pc slots rows s.printed) (normal next)
      by_each (Ok stores) h kept e =
          let same : store_all s a stores ≡ next = cc in
          let reach = par-passes table row_count moves code n par tuples left pc slots rows s.printed is has count sized T those kept in
          subst (λ next. Goes table row_count moves code n many copy leave again T (pc + 1) b slots
          (stands table row_count moves code pc slots rows s.printed) (normal next)) same (
            slots,
            scatter passed_effect count rows,
            subst (λ o. Reaches table row_count moves code T (stands table row_count moves code pc slots rows s.printed)
                (stands table row_count moves code (pc + 1) slots (scatter passed_effect count rows) o))
                (sym (stores-print s a stores)) reach,
            kept-refl table row_count moves code n many copy b slots,
            h,
          )
      by_each (Err c) h kept e = absurd cc
