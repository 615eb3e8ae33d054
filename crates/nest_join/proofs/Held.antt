-- After a nest the rows hold the arrays of the state that it leaves, and the slots its scalars, but for indices.
use Rattle.std.proofs.Common.{◌≡◌, ℕ, ◌<◌, List, [], length, slice_index_or, ℤ, pos, Bool, true, false, true≢false, Some, if◌then◌else◌, refl, sym, ap, ◌∙◌, subst, arith, ext_get_or}
use Rattle.storage.specs.Storage.{Storage, row_of, read}
use Rattle.nest_syntax.specs.NestKinds.{has_copies}
use Rattle.nest_order.specs.Copies.{scalar_at}
use Rattle.nest_order.proofs.Copying.{shared_of}
use Rattle.array_meaning.specs.Statements.{Loop, Block}
use Rattle.array_meaning.specs.Faults.{Fault}
use Rattle.array_meaning.specs.State.{State, Array, no_array, array, scalar, element_place}
use Rattle.array_meaning.specs.Sections.{subscripts_at}
use Rattle.array_meaning.specs.Runs.{Run}
use Rattle.machine_steps.specs.Instr.{Instr}
use Rattle.code_meaning.specs.Flat.{slot}
use Rattle.code_meaning.specs.Forms.{selections_at}
use Rattle.code_meaning.specs.Parallel.{shape_of, indices_in}
use Rattle.program_code.specs.ExpressionCode.{index_subs}
use Rattle.lowered_expressions.proofs.Terms.{HoldsArrays}
use Rattle.nest_syntax.specs.Assigning.{Assigning, ToScalar, ToElement}
use Rattle.nest_items.specs.StateStorage.{state_of}
use Rattle.nest_items.proofs.Storing.{scalar-at, array-at, fixed-scalar, state-scalars, if_so, if_not, by_cases}
use Rattle.nest_machine.specs.Body.{count_body}
use Rattle.nest_machine.specs.Trace.{Data}
use Rattle.nest_machine.specs.PlacedEnds.{OffRow}
use Rattle.nest_texts.specs.NestTexts.{left_spot}
use Rattle.nest_syntax.specs.NestTerms.{all_indexed}
use Rattle.nest_join.specs.NestNames.{NestNames, index_of, IsText}
use Rattle.nest_join.specs.NestTexts.{NestAction, assignment_text, texts_of, HoldsEntry}
use Rattle.nest_join.specs.CodedBlocks.{IsCodedBlock}
use Rattle.nest_join.specs.NestRuns.{NestCode, machine_body, EndsAsMeant, HoldsRows, HasFinals}
use Rattle.nest_join.proofs.PairedTexts.{no-mark, off-element}

module _ {I : Type 0} (meaning : I → Instr Fault) (code : List I) (is_quiet : ℕ → Bool) (joined : ℤ) (line printed : List ℕ) (w : NestNames) (c : NestCode) (all : ℕ → Bool) (s : State)
    (loop : Loop) (block body : Block) (ok : IsCodedBlock w s [] body) (start : Storage) (entry : List ℤ) (d : Data Fault) (run : Run)
    (h : EndsAsMeant meaning code is_quiet joined line printed w c all s loop block body ok start entry d run) (holds : HoldsEntry w c.slot entry s) where
  abbrev left : State
  left = state_of w.kinds s h.storage

  array-left : (a : ℕ) → array h.state a ≡ array left a
  array-left a = ap (λ (xs : List Array). slice_index_or xs a no_array) h.same.arrays

  module _ (rows : HoldsRows w c s (count_body (machine_body w c s body ok)) start d) where
    as-long : (a : ℕ) → a < w.count → length (row_of h.after.data'.rows a) ≡ length (array s a).elements
    as-long a lt = let le = rows.stored in h.after.extents a (omega (arith, lt, le)) (rows.unmade a lt) ∙ ap length (rows.elements a lt)

    -- a row of a scalar's name is stored to by no text, and has no marks
    elsewhere : (a : ℕ) → a < w.count → has_copies (w.kinds a) ≡ true → (x : NestAction w) (slots : List ℤ) (i : ℕ) → OffRow a ((texts_of w).left x slots i)
    elsewhere a lt has x slots i = by_text x.action.line x.action.round x.action.copies x.action.text x.named
      where
        by_text : (line : ℕ) (round copies : List ℕ) (t : Assigning) → IsText w round copies t
            → OffRow a (left_spot w.table.shapes w.over (assignment_text w line copies t).left slots i)
        by_text line round copies (ToScalar k t) named = λ e. let le = rows.copies k named.0.0 in omega (arith, e, le, lt)
        by_text line round copies (ToElement b ts t) named =
            let subs = index_subs (all_indexed (index_of w copies) ts) in
            off-element b a (element_place (shape_of w.table.shapes b) (subscripts_at (selections_at slots (indices_in w.over slots i) subs) (indices_in w.over slots i)))
            (λ e. true≢false (sym has ∙ ap (λ y. has_copies (w.kinds y)) (sym e) ∙ named.0.0.1))

    unmarked : (a : ℕ) → a < w.count → (x : NestAction w) → (texts_of w).mark x ≡ Some a → ⊥
    unmarked a lt x e = by_text x.action.line x.action.copies x.action.text e
      where
        by_text : (line : ℕ) (copies : List ℕ) (t : Assigning) → (assignment_text w line copies t).mark ≡ Some a → ⊥
        by_text line copies (ToScalar k t) e = let le = rows.marks k a e in omega (arith, le, lt)
        by_text line copies (ToElement b ts t) e = no-mark a e

    -- of what is no array, and of an array
    scalar-elements : (a : ℕ) → a < w.count → has_copies (w.kinds a) ≡ true → row_of h.after.data'.rows a ≡ (array h.state a).elements
    scalar-elements a lt has =
        let as' = holds.arrays in
        let le = rows.stored in
        let is : array left a ≡ array s a = array-at w.kinds s h.storage a (omega (arith, lt, as'))
        ∙ if_so (has_copies (w.kinds a)) (array s a) (record (array s a) { elements = row_of h.storage a }) has in
        h.after.untouched a (omega (arith, lt, le)) (rows.unmade a lt) (elsewhere a lt has) (unmarked a lt)
        ∙ rows.elements a lt ∙ sym (ap (λ (x : Array). x.elements) (array-left a ∙ is))

    own-elements : (a : ℕ) → a < w.count → has_copies (w.kinds a) ≡ false → row_of h.after.data'.rows a ≡ (array h.state a).elements
    own-elements a lt none =
        let as' = holds.arrays in
        let names = rows.names in
        let own = rows.arrays a lt none in
        let is : array left a ≡ record (array s a) { elements = row_of h.storage a } = array-at w.kinds s h.storage a (omega (arith, lt, as'))
        ∙ if_not (has_copies (w.kinds a)) (array s a) (record (array s a) { elements = row_of h.storage a }) none in
        ext_get_or (pos 0) (row_of h.after.data'.rows a) (row_of h.storage a) (as-long a lt ∙ sym (h.alike.extent a ∙ ap length own.2))
        (λ k lk. ap (λ r. slice_index_or (row_of h.after.data'.rows r) k (pos 0)) (sym own.1)
        ∙ h.after.shared (record { row = a; at = k }) (omega (arith, lt, names)) own.0 (shared_of (w.kinds a) none))
        ∙ sym (ap (λ (x : Array). x.elements) (array-left a ∙ is))

    shape-left : (a : ℕ) → a < w.count → (array h.state a).dims ≡ shape_of w.table.shapes a
    shape-left a lt =
        let as' = holds.arrays in
        ap (λ (x : Array). x.dims) (array-left a ∙ array-at w.kinds s h.storage a (omega (arith, lt, as'))) ∙ either (has_copies (w.kinds a)) ∙ holds.shapes a lt
      where
        either : (t : Bool) → (if t then array s a else record (array s a) { elements = row_of h.storage a }).dims ≡ (array s a).dims
        either true = refl
        either false = refl

    pub arrays-held : HoldsArrays w.count w.table.shapes h.state h.after.data'.rows
    arrays-held = record {
      elements = λ a lt. by_cases (has_copies (w.kinds a)) (scalar-elements a lt) (own-elements a lt);
      shape = shape-left;
      places = h.same.count ∙ state-scalars w.kinds s h.storage ∙ holds.scalars;
    }

  pub scalar-held : HasFinals w c s body ok start entry → (k : ℕ) → k < w.count → all k ≡ false → w.is_index k ≡ false → slot h.after.slots k ≡ scalar h.state k
  scalar-held finals k lt free no_index = by_cases (has_copies (w.kinds k))
      (λ has. let f = finals.copied k lt has in
      let sn = holds.scalars in
      subst (λ x. slot h.after.slots x ≡ read h.storage (scalar_at k)) f.2 (h.after.scalars f.0 k f.1 f.3)
      ∙ sym (h.same.scalars k free ∙ scalar-at w.kinds s h.storage k (omega (arith, lt, sn))
      ∙ if_so (has_copies (w.kinds k)) (read h.storage (scalar_at k)) (scalar s k) has))
      (λ none. let le = holds.below in
      h.after.others k (omega (arith, lt, le)) (finals.others k lt none) no_index ∙ holds.slots k lt no_index
      ∙ sym (h.same.scalars k free ∙ fixed-scalar w.kinds s h.storage k none))
