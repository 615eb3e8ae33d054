-- The texts of a nest over the machine's rows are what the meaning says of them over the nest's rows, with copies.
use Rattle.std.proofs.Common.{◌≡◌, ℕ, List, [], ◌++◌, length, map, ℤ, true, Option, Some, None, option_map, Result, Ok, Err, if◌then◌else◌, refl, sym, ap, ◌∙◌, subst, append-nil}
use Rattle.op_tables.specs.Operators.{is_true}
use Rattle.storage.specs.Storage.{Storage, Spot, read}
use Rattle.storage.specs.Effect.{Put}
use Rattle.nest_order.specs.LastValue.{copy_at}
use Rattle.nest_syntax.specs.NestKinds.{has_copies}
use Rattle.nest_order.specs.Copies.{scalar_at, seen_by, own_effect, copied}
use Rattle.array_meaning.specs.Terms.{Term, Terms}
use Rattle.array_meaning.specs.Faults.{Cause, ◌>>=◌}
use Rattle.array_meaning.specs.State.{State, Array, array, element_place, if_in_bounds, place_in}
use Rattle.array_meaning.specs.Sections.{subscripts_at}
use Rattle.array_meaning.specs.Expressions.{value, values}
use Rattle.array_meaning.specs.Forall.{indices_at}
use Rattle.array_meaning.specs.Iterations.{nest_axes}
use Rattle.machine_steps.specs.Machine.{effect_by, value_by}
use Rattle.code_meaning.specs.Forms.{selections_at}
use Rattle.code_meaning.specs.Parallel.{at_line, shape_of, spot_of, outcome_of, indices_in}
use Rattle.program_code.specs.ExpressionCode.{index_form, index_subs}
use Rattle.nest_items.specs.StateStorage.{state_of}
use Rattle.nest_syntax.specs.Assigning.{Assigning, ToScalar, ToElement}
use Rattle.nest_items.specs.NestItems.{one, effect_in, scalar_effect, element_effect, truth_or_fault}
use Rattle.nest_machine.specs.Slots.{SameSlots}
use Rattle.nest_machine.specs.ItemsAt.{truth_outcome}
use Rattle.nest_machine.specs.Placed.{Placed, placed_spot, placed_effect, IsOfRow, PlacedMean}
use Rattle.code_meaning.specs.NestStatements.{form_reads, form_value}
use Rattle.nest_texts.specs.NestTexts.{left_spot, text_outcome, test_outcome}
use Rattle.nest_syntax.specs.NestTerms.{scalar_or_index, indexed, all_indexed, SubscriptsFirst}
use Rattle.nest_texts.proofs.Values.{nest-value, nest-subs}
use Rattle.nest_join.specs.NestNames.{NestNames, indices_of, index_of, IsFixedHere, IsScalarName, IsArrayName, IsTextTerm, AreTextSubscripts, IsText}
use Rattle.nest_join.specs.NestTexts.{NestAction, NestCondition, assignment_text, text_of, test_of, texts_of, state_at, action_at, condition_at, HoldsEntry}
use Rattle.nest_join.proofs.Names.{machine-scalars, machine-arrays}
use Rattle.nest_join.proofs.TextNames.{is-alike, are-alike, indices-many, E, S, own, fixed-agrees, scalar-agrees, array-is, array-agrees}

module _ (w : NestNames) (b : ℕ) (entry : List ℤ) (s0 : State) (holds : HoldsEntry w b entry s0) where
  abbrev n : ℕ
  n = w.count

  module _ (slots : List ℤ) (same : SameSlots w.is_index b entry slots) (i : ℕ) (m rows : Storage) (placed : Placed w.place w.is_row m rows) (round copies : List ℕ) where
    abbrev entry_state : State
    entry_state = E w b entry s0 holds slots same i m rows placed round copies

    abbrev here : State
    here = S w b entry s0 holds slots same i m rows placed round copies

    abbrev own_values : List ℤ
    own_values = own w b entry s0 holds slots same i m rows placed round copies

    abbrev tuple : List ℤ
    tuple = indices_at (nest_axes s0 w.nest) i

    tuple-is : indices_in w.over slots i ≡ tuple
    tuple-is = holds.tuples slots same i

    -- a right side
    text-value : (t : Term) → IsTextTerm w round copies t
        → form_value w.table.shapes w.over (map w.place copies) (index_form (indexed (index_of w copies) t)) slots i
        (map (value_by (read rows)) (form_reads w.table.shapes w.over (map w.place copies) (index_form (indexed (index_of w copies) t)) slots i)) ≡ value [] here t
    text-value t ok =
        let long : length (indices_of w) ≡ length (indices_in w.over slots i) = sym (indices-many s0 w.nest i) ∙ sym (ap length tuple-is) in
        nest-value n w.table.shapes w.over (map w.place copies) entry_state slots rows i (machine-scalars n w.table.shapes slots rows) (machine-arrays n w.table.shapes slots rows)
        (index_of w copies) here t ok.form (subst (λ l. SubscriptsFirst l (indexed (index_of w copies) t)) long ok.first)
        (is-alike (index_of w copies) (indices_in w.over slots i ++ own_values) entry_state here (IsScalarName w round copies) (IsArrayName w)
        (λ k h. ap (λ x. value (x ++ own_values) entry_state (scalar_or_index (index_of w copies k) k)) tuple-is
        ∙ scalar-agrees w b entry s0 holds slots same i m rows placed round copies k h)
        (array-agrees w b entry s0 holds slots same i m rows placed round copies) t ok.names ok.plain)

    -- the subscripts of a left side
    subs-value : (ts : Terms) → AreTextSubscripts w round copies ts
        → values [] here ts
        ≡ Ok (subscripts_at (selections_at slots (indices_in w.over slots i) (index_subs (all_indexed (index_of w copies) ts))) (indices_in w.over slots i))
    subs-value ts ok =
        nest-subs n w.over (index_of w copies) entry_state here slots i (machine-scalars n w.table.shapes slots rows) ts ok.form
        (are-alike (index_of w copies) (indices_in w.over slots i) entry_state here (IsFixedHere w round copies) (λ a. ⊥)
        (λ k h. ap (λ x. value x entry_state (scalar_or_index (index_of w copies k) k)) (tuple-is ∙ sym (append-nil tuple))
        ∙ fixed-agrees w b entry s0 holds slots same i m rows placed round copies [] k h)
        (λ a e. absurd e) ts ok.names ok.plain)

    -- ---- what is done

    scalar-does : (line k : ℕ) (t : Term) → has_copies (w.kinds k) ≡ true → w.is_row k ≡ true → (r : Result ℤ Cause) → r ≡ value [] here t
        → (effect_by (Some (record { row = w.place k; at = i })) (outcome_of (at_line line r)) ≡ placed_effect w.place (own_effect w.kinds i (effect_in line (ToScalar k t) here)))
        × IsOfRow w.is_row (own_effect w.kinds i (effect_in line (ToScalar k t) here))
    scalar-does line k t has of_row r e =
        subst (λ x. (effect_by (Some (record { row = w.place k; at = i })) (outcome_of (at_line line r)) ≡ placed_effect w.place (own_effect w.kinds i (scalar_effect line k x)))
        × IsOfRow w.is_row (own_effect w.kinds i (scalar_effect line k x))) e (by_result r)
      where
        by_result : (r : Result ℤ Cause)
            → (effect_by (Some (record { row = w.place k; at = i })) (outcome_of (at_line line r)) ≡ placed_effect w.place (own_effect w.kinds i (scalar_effect line k r)))
            × IsOfRow w.is_row (own_effect w.kinds i (scalar_effect line k r))
        by_result (Ok v) = (
          (λ j. Put (placed_spot w.place (if sym has j then copy_at k i else scalar_at k)) v),
          subst (λ (l : Spot). w.is_row l.row ≡ true) (λ j. if sym has j then copy_at k i else scalar_at k) of_row,
        )
        by_result (Err c) = (refl, tt)

    element-does : (line a : ℕ) (ts : Terms) (t : Term) (is : List ℤ) → IsArrayName w a → values [] here ts ≡ Ok is → (r : Result ℤ Cause) → r ≡ value [] here t
        → (effect_by (spot_of w.table.shapes a is) (outcome_of (at_line line (if_in_bounds (element_place (shape_of w.table.shapes a) is) >>= (λ k. r))))
        ≡ placed_effect w.place (own_effect w.kinds i (effect_in line (ToElement a ts t) here)))
        × IsOfRow w.is_row (own_effect w.kinds i (effect_in line (ToElement a ts t) here))
    element-does line a ts t is (lt, none, of_row, lies) subs r e =
        let dims : (array here a).dims ≡ shape_of w.table.shapes a =
        ap (λ (x : Array). x.dims) (array-is w b entry s0 holds slots same i m rows placed round copies a (lt, none, of_row, lies)) in
        let left : (values [] here ts >>= place_in here a) ≡ if_in_bounds (element_place (shape_of w.table.shapes a) is) =
        ap (λ x. x >>= place_in here a) subs ∙ ap (λ d. if_in_bounds (element_place d is)) dims in
        subst (λ x. (effect_by (spot_of w.table.shapes a is) (outcome_of (at_line line (if_in_bounds (element_place (shape_of w.table.shapes a) is) >>= (λ k. r))))
        ≡ placed_effect w.place (own_effect w.kinds i x)) × IsOfRow w.is_row (own_effect w.kinds i x)) (λ j. element_effect line a (sym left j) (e j))
        (by_place (element_place (shape_of w.table.shapes a) is) r)
      where
        by_place : (p : Option ℕ) (r : Result ℤ Cause)
            → (effect_by (option_map (λ k. record { row = a; at = k }) p) (outcome_of (at_line line (if_in_bounds p >>= (λ k. r))))
            ≡ placed_effect w.place (own_effect w.kinds i (element_effect line a (if_in_bounds p) r)))
            × IsOfRow w.is_row (own_effect w.kinds i (element_effect line a (if_in_bounds p) r))
        by_place None r = (refl, tt)
        by_place (Some k) (Ok v) = (
          (λ j. Put (record { row = sym lies j; at = k }) v) ∙ (λ j. Put (placed_spot w.place (if sym none j then copy_at a i else record { row = a; at = k })) v),
          subst (λ (l : Spot). w.is_row l.row ≡ true) (λ j. if sym none j then copy_at a i else record { row = a; at = k }) of_row,
        )
        by_place (Some k) (Err c) = (refl, tt)

  action-means : (x : NestAction w) (slots : List ℤ) → SameSlots w.is_index b entry slots → (i : ℕ) (m rows : Storage) → Placed w.place w.is_row m rows
      → (effect_by (left_spot w.table.shapes w.over (text_of w x).left slots i) (text_outcome w.table.shapes w.over (text_of w x) slots i
      (map (value_by (read rows)) (form_reads w.table.shapes w.over (text_of w x).copies (text_of w x).right slots i)))
      ≡ placed_effect w.place ((copied w.kinds (one w.kinds)).effect (action_at w s0 x slots i) m))
      × IsOfRow w.is_row ((copied w.kinds (one w.kinds)).effect (action_at w s0 x slots i) m)
  action-means x slots same i m rows placed = by_text x.action.text x.named
    where
      by_text : (t : Assigning) → IsText w x.action.round x.action.copies t
          → let p = assignment_text w x.action.line x.action.copies t in
          let s = state_of w.kinds (state_at w s0 x.action.round slots i) (seen_by w.kinds i m) in
          (effect_by (left_spot w.table.shapes w.over p.left slots i) (text_outcome w.table.shapes w.over p slots i
          (map (value_by (read rows)) (form_reads w.table.shapes w.over p.copies p.right slots i)))
          ≡ placed_effect w.place (own_effect w.kinds i (effect_in x.action.line t s)))
          × IsOfRow w.is_row (own_effect w.kinds i (effect_in x.action.line t s))
      by_text (ToScalar k t) ok =
          let f = index_form (indexed (index_of w x.action.copies) t) in
          scalar-does slots same i m rows placed x.action.round x.action.copies x.action.line k t ok.0.0 ok.0.1
          (form_value w.table.shapes w.over (map w.place x.action.copies) f slots i
          (map (value_by (read rows)) (form_reads w.table.shapes w.over (map w.place x.action.copies) f slots i)))
          (text-value slots same i m rows placed x.action.round x.action.copies t ok.1)
      by_text (ToElement a ts t) ok =
          let f = index_form (indexed (index_of w x.action.copies) t) in
          let subs = index_subs (all_indexed (index_of w x.action.copies) ts) in
          element-does slots same i m rows placed x.action.round x.action.copies x.action.line a ts t
          (subscripts_at (selections_at slots (indices_in w.over slots i) subs) (indices_in w.over slots i)) ok.0.0
          (subs-value slots same i m rows placed x.action.round x.action.copies ts ok.0.1)
          (form_value w.table.shapes w.over (map w.place x.action.copies) f slots i
          (map (value_by (read rows)) (form_reads w.table.shapes w.over (map w.place x.action.copies) f slots i)))
          (text-value slots same i m rows placed x.action.round x.action.copies t ok.1)

  condition-means : (x : NestCondition w) (slots : List ℤ) → SameSlots w.is_index b entry slots → (i : ℕ) (m rows : Storage) → Placed w.place w.is_row m rows
      → test_outcome w.table.shapes w.over (test_of w x) slots i
      (map (value_by (read rows)) (form_reads w.table.shapes w.over (test_of w x).copies (test_of w x).form slots i))
      ≡ truth_outcome ((copied w.kinds (one w.kinds)).condition (condition_at w s0 x slots i) m)
  condition-means x slots same i m rows placed =
      ap (λ r. truth_outcome (at_line x.condition.line (r >>= (λ v. Ok (is_true v)))))
      (text-value slots same i m rows placed x.condition.round x.condition.copies x.condition.text x.named)
      ∙ by_result (value [] (state_of w.kinds (state_at w s0 x.condition.round slots i) (seen_by w.kinds i m)) x.condition.text)
    where
      by_result : (r : Result ℤ Cause) → truth_outcome (at_line x.condition.line (r >>= (λ v. Ok (is_true v)))) ≡ truth_outcome (truth_or_fault x.condition.line r)
      by_result (Ok v) = refl
      by_result (Err c) = refl

  pub texts-mean : PlacedMean (texts_of w) (copied w.kinds (one w.kinds)) (action_at w s0) (condition_at w s0) w.place w.is_row w.is_index b entry
  texts-mean = record { action = action-means; condition = condition-means }
