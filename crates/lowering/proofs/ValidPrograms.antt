-- The code of programs that keep the ranks of their arrays is valid.
use Rattle.std.proofs.Common.{◌≡◌, ℕ, zero, suc, ◌+◌, ◌<◌, ◌≤◌, List, [], ◌∷◌, ◌++◌, length, length-append, map, max, Bool, true, false, Option, Some, None, if◌then◌else◌, refl, sym, ap, subst, ◌∙◌, arith}
use Rattle.std.specs.Bool.{⊤}
use Rattle.std.specs.Prelude.{option_map, pos, slice_get}
use Rattle.std.specs.List.{AllByRecursion}
use Rattle.std.specs.Option.{option_or}
use Rattle.std.proofs.lemmas.List.{length-map, length-reverse}
use Rattle.hpf_base.specs.declared.limits.TheConstants.{MAX_RANK}
use Rattle.name_table.specs.declared.limits.TheConstants.{MAX_INDICES}
use Rattle.expression_rules.specs.declared.dims.Dim.{Dim}
use Rattle.expression_rules.specs.Dims.{extent}
use Rattle.op_tables.specs.declared.op.Op.{Op}
use Rattle.op_tables.specs.declared.op.Op.TheVariants as op
use Rattle.op_tables.specs.Operators.{can_divide}
use Rattle.array_meaning.specs.Terms.{Term, Number, Scalar, Index, Element, Section, Apply, Reduce, Terms, NoTerm, More, list_of, SectionSubscripts, NoSubscript, Subscript, Triplet, Control}
use Rattle.array_meaning.specs.Statements as statements
use Rattle.array_meaning.specs.Statements.{Loop, Mark, Unmarked, Outermost, Item, Text, Value, Elements, SectionAssignment, ElementAssignment, WholeArray, Transformation, CircularShift, Transposition, PrefixSum, Block, Done, Then, Statement, AssignScalar, AssignElement, AssignSection, Transform, If, Do, Where, Forall, Stop, Exit, Cycle, Continue, Redistribute, Arms, NoArm, Arm}
use Rattle.statement_trail.specs.Anchors.{AtTerm, are_all_foreknown, section_terms, where_anchor}
use Rattle.array_meaning.specs.Forall.{subscripts_in, subscripts_in_all, mask_subscripts, body_subscripts}
use Rattle.array_meaning.specs.Resolution.{whole}
use Rattle.array_meaning.specs.Transformations.{has_shape}
use Rattle.statement_trail.specs.TransformedElements.{above_lower, applied, from_lower, indices_from, same_places, shifted_subscripts, source_subscripts, transposed_subscripts, turned}
use Rattle.node_code.specs.Flat.{Flat, Int, Slot, Axis, Read, Operated, Flats, NoFlat, AndFlat}
use Rattle.node_code.specs.Anchors.{FlatAnchor}
use Rattle.node_code.specs.Forms.{Sub, ArrayForm, FlatForm, SectionForm, OperationForm, Forms, NoForm, AndForm}
use Rattle.node_code.specs.Parallel.{When, Evaluation}
use Rattle.code_meaning.specs.Parallel.{shape_of}
use Rattle.node_code.specs.Instructions.{NewMapping, Instruction, Jump, JumpIfZero, Halt, MakeCopy, Remap, Set, Trips}
use Rattle.code_meaning.specs.ValidCode.{CodeTable, flat_count, IsCopy, IsFlat, AreFlats, IsValue, IsReference, IsElement, IsSub, IsSection, IsSpace, IsForm, AreForms, IsMask, IsAnchorSub, IsAnchor, IsAssignment, IsEvaluation, IsNestStatement, IsItem, IsValid, IsValidNodeCode, is_closed}
use Rattle.program_code.specs.ExpressionCode.{one_if, slots_of, all_slots_of, parts_slots, all_parts_slots, subscripts_slots, control_slots, operated_flat, flat_of, flats_of, subs_of, form_of, forms_of, set_if, three_code, first_subs, first_subs_of, or_no_sub, copied_evaluation, own_evaluation, reduce_code, code_of, codes_of, subscripts_code, parts_code, all_parts_code, control_code, index_flat, index_flats, index_subs, index_form, index_forms, anchor_sub_code, anchor_code}
use Rattle.program_code.specs.StatementCode.{Masking, entry_code, item_slots, items_slots, item_code, items_code, print_item, print_items, loop_code, arm_code, assignment, assignment_code, masked_slots, masked_code, where_true, where_beside, where_code, triplets, one_to_one_code, forall_beside, forall_mask_code, forall_assignments_code, forall_code, turn_operands, turn_slots, turn_code, turn_in_slot, transform_assignment, in_order, misfit, fitted_code, transform_code, statement_slots, arms_slots, block_slots, block_copies, statement_code, arms_code, block_code, program_code, statement_copies, arms_copies, whole_evaluation, copy_assignment, agreed_code}
use Rattle.lowered_expressions.specs.WellFormed.{IsScalar, AreScalar, AreScalarSubscripts, IsArray, AreArrays, IsControl, AreControls, AreMasked, IsSubscript, AreSubscripts, IsIndexed, AreIndexed, IsIndexedMask, AreIndexedAssignments, AreItems, IsTransformation, IsWellFormed, AreWellFormedArms, IsWellFormedBlock}
use Rattle.lowered_expressions.specs.Anchors.{IsAnchorTerm, IsAnchorText}
use Rattle.lowered_expressions.proofs.Anchors.{where-anchored, masked-append}
use Rattle.program_code.specs.NestCode.{nest_slots, nest_code}
use Rattle.nest_items.specs.BlockForms.{BlockHasForms, HasForms, ArmsHaveForms}
use Rattle.lowering.proofs.NestNames.{formed_nest}
use Rattle.lowering.proofs.NestValidity.{both}
use Rattle.lowering.proofs.ValidNests.{nest-names}
use Rattle.lowering.proofs.Rooms.{some_copy}
use Rattle.lowering.proofs.NestChecks.{all_reversed}
use Rattle.lowering.proofs.Wholes.{whole-counted, whole-ranked, whole-scalar}
use Rattle.lowering.specs.Ranks.{subscript_count, AreFewDims, IsRanked, AreRanked, AreRankedSubscripts, IsRankedControl, IsRankedMasked, IsRankedIndexed, IsRankedMask, IsRankedItem, IsDeclared, IsRankOf, AreTransformed, IsRankedTransformation, KeepsRanks, ArmsKeepRanks, BlockKeepsRanks}

-- ---- lists, and how many there are

both_mapped : {A B : Type 0} (P : B → Type 0) (f : A → B) (xs ys : List A) → AllByRecursion P (map f xs) → AllByRecursion P (map f ys) → AllByRecursion P (map f (xs ++ ys))
both_mapped P f [] ys h g = g
both_mapped P f (x ∷ xs) ys h g = (h.0, both_mapped P f xs ys h.1 g)

flats_counted : (b : ℕ) (ts : Terms) → flat_count (flats_of b ts) ≡ length (list_of ts)
flats_counted b NoTerm = refl
flats_counted b (More t ts) = let more = flats_counted (b + slots_of t) ts in omega (arith, more)

subs_counted : (b : ℕ) (subs : SectionSubscripts) → length (subs_of b subs) ≡ subscript_count subs
subs_counted b NoSubscript = refl
subs_counted b (Subscript t subs) = let more = subs_counted (b + slots_of t) subs in omega (arith, more)
subs_counted b (Triplet first last step subs) =
    let more = subs_counted (b + (slots_of first + (slots_of last + slots_of step)) + 3) subs in omega (arith, more)

triplets_counted : (cs : List Control) → subscript_count (triplets cs) ≡ length cs
triplets_counted [] = refl
triplets_counted (c ∷ cs) = let more = triplets_counted cs in omega (arith, more)

index_counted : (ts : Terms) → length (index_subs ts) ≡ length (list_of ts)
index_counted NoTerm = refl
index_counted (More t ts) = ap suc (index_counted ts)

terms_counted : (subs : SectionSubscripts) → length (section_terms subs) ≡ subscript_count subs
terms_counted NoSubscript = refl
terms_counted (Subscript t subs) = let more = terms_counted subs in omega (arith, more)
terms_counted (Triplet first last step subs) = let more = terms_counted subs in omega (arith, more)

indices_counted : (k : ℕ) (ds : List Dim) → length (index_subs (indices_from k ds)) ≡ length ds
indices_counted k [] = refl
indices_counted k (d ∷ ds) = ap suc (indices_counted (suc k) ds)

places_counted : (k : ℕ) (ds es : List Dim) → length es ≡ length ds → length (index_subs (same_places k ds es)) ≡ length es
places_counted k [] [] same = refl
places_counted k [] (e ∷ es) same = absurd (omega (arith, same))
places_counted k (d ∷ ds) [] same = refl
places_counted k (d ∷ ds) (e ∷ es) same = ap suc (places_counted (suc k) ds es (omega (arith, same)))

-- of the element that goes to a place of a target
shifted_counted : (turn : Term) (ds es : List Dim) → length es ≡ length ds → length (index_subs (shifted_subscripts turn ds es)) ≡ length es
shifted_counted turn [] [] same = refl
shifted_counted turn [] (e ∷ es) same = absurd (omega (arith, same))
shifted_counted turn (d ∷ ds) [] same = refl
shifted_counted turn (d ∷ ds) (e ∷ es) same = ap suc (places_counted 1 ds es (omega (arith, same)))

transposed_counted : (ds es : List Dim) → length ds ≡ 2 → length es ≡ 2 → length (index_subs (transposed_subscripts ds es)) ≡ length es
transposed_counted (d ∷ d' ∷ []) (e ∷ e' ∷ []) h g = refl
transposed_counted (d ∷ d' ∷ []) [] h g = absurd (omega (arith, g))
transposed_counted (d ∷ d' ∷ []) (e ∷ []) h g = absurd (omega (arith, g))
transposed_counted (d ∷ d' ∷ []) (e ∷ e' ∷ c ∷ es) h g = absurd (omega (arith, g))
transposed_counted [] es h g = absurd (omega (arith, h))
transposed_counted (d ∷ []) es h g = absurd (omega (arith, h))
transposed_counted (d ∷ d' ∷ c ∷ ds) es h g = absurd (omega (arith, h))

source_counted : (how : Transformation) (turn : Term) (ds es : List Dim) → length es ≡ length ds → IsRankOf how (length ds) →
    length (index_subs (source_subscripts how turn ds es)) ≡ length es
source_counted (CircularShift by) turn ds es same rank = shifted_counted turn ds es same
source_counted Transposition turn ds es same rank = transposed_counted ds es rank (same ∙ rank)
source_counted PrefixSum turn ds es same rank = places_counted 0 ds es same

-- `n` names are declared, and no array has more than 7 dimensions
module _ (table : CodeTable) (n : ℕ) (declared : length table.shapes ≡ n) (few : AreFewDims table.shapes) (roomy : n ≤ table.slots) where
  abbrev AllValid : List Instruction → Type 0
  AllValid code = AllByRecursion (IsValid table) code

  abbrev Rank : ℕ → ℕ
  Rank a = length (shape_of table.shapes a)

  join : (xs ys : List Instruction) → AllValid xs → AllValid ys → AllValid (xs ++ ys)
  join xs ys h g = both (IsValid table) xs ys h g

  -- ---- what is left of expressions

  scalar-slot : (k : ℕ) → k < n → k < table.slots
  scalar-slot k h = omega (arith, h, roomy)

  reference : (a k : ℕ) → a < n → k ≡ Rank a → IsReference table a k
  reference a k below same = let most : Rank a ≤ MAX_RANK = few a in (omega (arith, below, declared), same, omega (arith, same, most))

  operated-good : (axes x : ℕ) (o : Op) (fs : Flats) (divides : Bool) → can_divide o ≡ divides → x + one_if divides ≤ table.slots → AreFlats table axes fs →
      IsFlat table axes (operated_flat divides o fs x)
  operated-good axes x o fs true is le ok = let more : x + 1 ≤ table.slots = le in omega (arith, more)
  operated-good axes x o fs false is le ok = (is, ok)

  mutual
    flat-good : (axes b : ℕ) (t : Term) → IsScalar n t → b + slots_of t ≤ table.slots → IsFlat table axes (flat_of b t)
    flat-good axes b (Number v) ok le = tt
    flat-good axes b (Scalar k) ok le = scalar-slot k ok
    flat-good axes b (Index k) ok le = tt
    flat-good axes b (Element a ts) ok le = let more : b + (all_slots_of ts + 1) ≤ table.slots = le in omega (arith, more)
    flat-good axes b (Section a subs) ok le = tt
    flat-good axes b (Apply o ts) ok le =
        let more : b + (all_slots_of ts + one_if (can_divide o)) ≤ table.slots = le in
        operated-good axes (b + all_slots_of ts) o (flats_of b ts) (can_divide o) refl (omega (arith, more)) (flats-good axes b ts ok (omega (arith, more)))
    flat-good axes b (Reduce o t) ok le = let more : b + (parts_slots t + 1) ≤ table.slots = le in omega (arith, more)

    flats-good : (axes b : ℕ) (ts : Terms) → AreScalar n ts → b + all_slots_of ts ≤ table.slots → AreFlats table axes (flats_of b ts)
    flats-good axes b NoTerm ok le = tt
    flats-good axes b (More t ts) ok le =
        let more : b + (slots_of t + all_slots_of ts) ≤ table.slots = le in
        (flat-good axes b t ok.0 (omega (arith, more)), flats-good axes (b + slots_of t) ts ok.1 (omega (arith, more)))

  value-good : (f : Flat) → IsFlat table 0 f → IsValue table f
  value-good (Int v) ok = ok
  value-good (Slot k) ok = ok
  value-good (Axis k) ok = ok
  value-good (Read k) ok = ok
  value-good (Operated o fs) ok = ok.1

  element-good : (a b : ℕ) (ts : Terms) → a < n → AreScalar n ts → length (list_of ts) ≡ Rank a → b + all_slots_of ts ≤ table.slots → IsElement table a (flats_of b ts)
  element-good a b ts below ok rank le = (reference a (flat_count (flats_of b ts)) below (flats_counted b ts ∙ rank), flats-good 0 b ts ok le)

  subs-good : (axes b : ℕ) (subs : SectionSubscripts) → AreScalarSubscripts n subs → b + subscripts_slots subs ≤ table.slots →
      AllByRecursion (IsSub table axes) (subs_of b subs)
  subs-good axes b NoSubscript ok le = tt
  subs-good axes b (Subscript t subs) ok le =
      let more : b + (slots_of t + subscripts_slots subs) ≤ table.slots = le in
      (flat-good axes b t ok.0 (omega (arith, more)), subs-good axes (b + slots_of t) subs ok.1 (omega (arith, more)))
  subs-good axes b (Triplet f l s subs) ok le =
      let more : b + (slots_of f + (slots_of l + slots_of s) + 3 + subscripts_slots subs) ≤ table.slots = le in
      (omega (arith, more), subs-good axes (b + (slots_of f + (slots_of l + slots_of s)) + 3) subs ok.1 (omega (arith, more)))

  section-good : (axes b a : ℕ) (subs : SectionSubscripts) → a < n → AreScalarSubscripts n subs → subscript_count subs ≡ Rank a → b + subscripts_slots subs ≤ table.slots →
      IsSection table axes a (subs_of b subs)
  section-good axes b a subs below ok rank le =
      (reference a (length (subs_of b subs)) below (subs_counted b subs ∙ rank), subs-good axes b subs ok le)

  mutual
    form-good : (axes b : ℕ) (t : Term) → IsArray n t → IsRanked table.shapes 0 t → b + parts_slots t ≤ table.slots → IsForm table axes (form_of b t)
    form-good axes b (Number v) ok ranked le = tt
    form-good axes b (Scalar k) ok ranked le = scalar-slot k ok
    form-good axes b (Index k) ok ranked le = tt
    form-good axes b (Element a ts) ok ranked le = let more : b + (all_slots_of ts + 1) ≤ table.slots = le in omega (arith, more)
    form-good axes b (Section a subs) ok ranked le = section-good axes b a subs ok.0 ok.1 ranked.0 le
    form-good axes b (Apply o ts) ok ranked le = forms-good axes b ts ok ranked le
    form-good axes b (Reduce o t) ok ranked le = let more : b + (parts_slots t + 1) ≤ table.slots = le in omega (arith, more)

    forms-good : (axes b : ℕ) (ts : Terms) → AreArrays n ts → AreRanked table.shapes 0 ts → b + all_parts_slots ts ≤ table.slots → AreForms table axes (forms_of b ts)
    forms-good axes b NoTerm ok ranked le = tt
    forms-good axes b (More t ts) ok ranked le =
        let more : b + (parts_slots t + all_parts_slots ts) ≤ table.slots = le in
        (form-good axes b t ok.0 ranked.0 (omega (arith, more)), forms-good axes (b + parts_slots t) ts ok.1 ranked.1 (omega (arith, more)))

  -- ---- spaces

  abbrev IsSpaceIf : Option (List Sub) → Type 0
  IsSpaceIf None = ⊤
  IsSpaceIf (Some subs) = IsSpace table subs

  space-or : (a b : Option (List Sub)) → IsSpaceIf a → IsSpaceIf b → IsSpaceIf (option_or a b)
  space-or None b h g = g
  space-or (Some subs) b h g = h

  mutual
    first-space : (f : ArrayForm) → IsForm table 0 f → IsSpaceIf (first_subs f)
    first-space (FlatForm f) ok = tt
    first-space (SectionForm a subs) ok = (ok.0.2, ok.1)
    first-space (OperationForm o fs) ok = first-space-of fs ok

    first-space-of : (fs : Forms) → AreForms table 0 fs → IsSpaceIf (first_subs_of fs)
    first-space-of NoForm ok = tt
    first-space-of (AndForm f fs) ok = space-or (first_subs f) (first_subs_of fs) (first-space f ok.0) (first-space-of fs ok.1)

  own-space : (o : Option (List Sub)) → IsSpaceIf o → IsSpace table (or_no_sub o)
  own-space None ok = (omega arith, tt)
  own-space (Some subs) ok = ok

  own-good : (line : ℕ) (f : ArrayForm) → IsForm table 0 f → IsEvaluation table 0 (own_evaluation line f)
  own-good line f ok = (ok, own-space (first_subs f) (first-space f ok), tt)

  -- ---- the code of expressions

  set-good : (divides : Bool) (line x : ℕ) (o : Op) (fs : Flats) → x + one_if divides ≤ table.slots → AreFlats table 0 fs → AllValid (set_if divides line x (Operated o fs))
  set-good true line x o fs le ok = let more : x + 1 ≤ table.slots = le in ((omega (arith, more), ok), tt)
  set-good false line x o fs le ok = tt

  three-good : (line v : ℕ) (f1 f2 f3 : Flat) (c1 c2 c3 : List Instruction) → v + 3 ≤ table.slots → IsFlat table 0 f1 → IsFlat table 0 f2 → IsFlat table 0 f3 →
      AllValid c1 → AllValid c2 → AllValid c3 → AllValid (three_code line v f1 f2 f3 c1 c2 c3)
  three-good line v f1 f2 f3 c1 c2 c3 le g1 g2 g3 h1 h2 h3 =
      join c1 _ h1 (join c2 _ h2 (join c3 _ h3
      ((omega (arith, le), value-good f1 g1), ((omega (arith, le), value-good f2 g2), ((omega (arith, le), value-good f3 g3), tt)))))

  reduce-good : (line : ℕ) (o : Op) (f : ArrayForm) (x : ℕ) → IsForm table 0 f → x < table.slots → AllValid (reduce_code line o f x)
  reduce-good line o f x ok lt = (own-good line f ok, ((own-good line f ok, lt), tt))

  mutual
    term-good : (line b : ℕ) (t : Term) → IsScalar n t → IsRanked table.shapes 0 t → b + slots_of t ≤ table.slots → AllValid (code_of line b t)
    term-good line b (Number v) ok ranked le = tt
    term-good line b (Scalar k) ok ranked le = tt
    term-good line b (Index k) ok ranked le = tt
    term-good line b (Element a ts) ok ranked le =
        let more : b + (all_slots_of ts + 1) ≤ table.slots = le in
        join (codes_of line b ts) _ (terms-good line b ts ok.1 ranked.1 (omega (arith, more)))
        ((element-good a b ts ok.0 ok.1 ranked.0 (omega (arith, more)), omega (arith, more)), tt)
    term-good line b (Section a subs) ok ranked le = tt
    term-good line b (Apply o ts) ok ranked le =
        let more : b + (all_slots_of ts + one_if (can_divide o)) ≤ table.slots = le in
        join (codes_of line b ts) _ (terms-good line b ts ok ranked (omega (arith, more)))
        (set-good (can_divide o) line (b + all_slots_of ts) o (flats_of b ts) (omega (arith, more)) (flats-good 0 b ts ok (omega (arith, more))))
    term-good line b (Reduce o t) ok ranked le =
        let more : b + (parts_slots t + 1) ≤ table.slots = le in
        join (parts_code line b t) _ (parts-good line b t ok.1 ranked (omega (arith, more)))
        (reduce-good line o (form_of b t) (b + parts_slots t) (form-good 0 b t ok.1 ranked (omega (arith, more))) (omega (arith, more)))

    terms-good : (line b : ℕ) (ts : Terms) → AreScalar n ts → AreRanked table.shapes 0 ts → b + all_slots_of ts ≤ table.slots → AllValid (codes_of line b ts)
    terms-good line b NoTerm ok ranked le = tt
    terms-good line b (More t ts) ok ranked le =
        let more : b + (slots_of t + all_slots_of ts) ≤ table.slots = le in
        join (code_of line b t) _ (term-good line b t ok.0 ranked.0 (omega (arith, more))) (terms-good line (b + slots_of t) ts ok.1 ranked.1 (omega (arith, more)))

    subscripts-good : (line b : ℕ) (subs : SectionSubscripts) → AreScalarSubscripts n subs → AreRankedSubscripts table.shapes 0 subs → b + subscripts_slots subs ≤ table.slots →
        AllValid (subscripts_code line b subs)
    subscripts-good line b NoSubscript ok ranked le = tt
    subscripts-good line b (Subscript t subs) ok ranked le =
        let more : b + (slots_of t + subscripts_slots subs) ≤ table.slots = le in
        join (code_of line b t) _ (term-good line b t ok.0 ranked.0 (omega (arith, more)))
        (subscripts-good line (b + slots_of t) subs ok.1 ranked.1 (omega (arith, more)))
    subscripts-good line b (Triplet f l s subs) ok ranked le =
        let more : b + (slots_of f + (slots_of l + slots_of s) + 3 + subscripts_slots subs) ≤ table.slots = le in
        join (three_code line _ _ _ _ (code_of line b f) (code_of line (b + slots_of f) l) (code_of line (b + slots_of f + slots_of l) s)) _
        (three-good line (b + (slots_of f + (slots_of l + slots_of s))) (flat_of b f) (flat_of (b + slots_of f) l) (flat_of (b + slots_of f + slots_of l) s)
        (code_of line b f) (code_of line (b + slots_of f) l) (code_of line (b + slots_of f + slots_of l) s) (omega (arith, more))
        (flat-good 0 b f ok.0.0 (omega (arith, more))) (flat-good 0 (b + slots_of f) l ok.0.1 (omega (arith, more)))
        (flat-good 0 (b + slots_of f + slots_of l) s ok.0.2 (omega (arith, more)))
        (term-good line b f ok.0.0 ranked.0.0 (omega (arith, more))) (term-good line (b + slots_of f) l ok.0.1 ranked.0.1 (omega (arith, more)))
        (term-good line (b + slots_of f + slots_of l) s ok.0.2 ranked.0.2 (omega (arith, more))))
        (omega (arith, more), subscripts-good line (b + (slots_of f + (slots_of l + slots_of s)) + 3) subs ok.1 ranked.1 (omega (arith, more)))

    parts-good : (line b : ℕ) (t : Term) → IsArray n t → IsRanked table.shapes 0 t → b + parts_slots t ≤ table.slots → AllValid (parts_code line b t)
    parts-good line b (Number v) ok ranked le = tt
    parts-good line b (Scalar k) ok ranked le = tt
    parts-good line b (Index k) ok ranked le = tt
    parts-good line b (Element a ts) ok ranked le =
        let more : b + (all_slots_of ts + 1) ≤ table.slots = le in
        join (codes_of line b ts) _ (terms-good line b ts ok.1 ranked.1 (omega (arith, more)))
        ((element-good a b ts ok.0 ok.1 ranked.0 (omega (arith, more)), omega (arith, more)), tt)
    parts-good line b (Section a subs) ok ranked le = subscripts-good line b subs ok.1 ranked.1 le
    parts-good line b (Apply o ts) ok ranked le = all-parts-good line b ts ok ranked le
    parts-good line b (Reduce o t) ok ranked le =
        let more : b + (parts_slots t + 1) ≤ table.slots = le in
        join (parts_code line b t) _ (parts-good line b t ok.1 ranked (omega (arith, more)))
        (reduce-good line o (form_of b t) (b + parts_slots t) (form-good 0 b t ok.1 ranked (omega (arith, more))) (omega (arith, more)))

    all-parts-good : (line b : ℕ) (ts : Terms) → AreArrays n ts → AreRanked table.shapes 0 ts → b + all_parts_slots ts ≤ table.slots → AllValid (all_parts_code line b ts)
    all-parts-good line b NoTerm ok ranked le = tt
    all-parts-good line b (More t ts) ok ranked le =
        let more : b + (parts_slots t + all_parts_slots ts) ≤ table.slots = le in
        join (parts_code line b t) _ (parts-good line b t ok.0 ranked.0 (omega (arith, more)))
        (all-parts-good line (b + parts_slots t) ts ok.1 ranked.1 (omega (arith, more)))

  control-good : (line b : ℕ) (c : Control) → IsControl n c → IsRankedControl table.shapes c → b + (control_slots c + 3) ≤ table.slots → AllValid (control_code line b c)
  control-good line b c ok ranked le =
      let more : b + (slots_of c.first + (slots_of c.last + slots_of c.step) + 3) ≤ table.slots = le in
      three-good line (b + control_slots c) (flat_of b c.first) (flat_of (b + slots_of c.first) c.last) (flat_of (b + slots_of c.first + slots_of c.last) c.step)
      (code_of line b c.first) (code_of line (b + slots_of c.first) c.last) (code_of line (b + slots_of c.first + slots_of c.last) c.step) (omega (arith, more))
      (flat-good 0 b c.first ok.0 (omega (arith, more))) (flat-good 0 (b + slots_of c.first) c.last ok.1 (omega (arith, more)))
      (flat-good 0 (b + slots_of c.first + slots_of c.last) c.step ok.2 (omega (arith, more)))
      (term-good line b c.first ok.0 ranked.0 (omega (arith, more))) (term-good line (b + slots_of c.first) c.last ok.1 ranked.1 (omega (arith, more)))
      (term-good line (b + slots_of c.first + slots_of c.last) c.step ok.2 ranked.2 (omega (arith, more)))

  -- ---- PRINT and array assignments

  item-good : (line b : ℕ) (i : Item) (is : List Item) → AreItems n (i ∷ is) → IsRankedItem table.shapes i → b + item_slots i ≤ table.slots → AllValid (item_code line b i)
  item-good line b (Text bytes) is ok ranked le = tt
  item-good line b (Value t) is ok ranked le = term-good line b t ok.0 ranked le
  item-good line b (Elements a subs) is ok ranked le =
      let own = section-good 0 b a subs ok.0.0 ok.0.1 ranked.0 le in
      join (subscripts_code line b subs) _ (subscripts-good line b subs ok.0.1 ranked.1 le) (own-good line (SectionForm a (subs_of b subs)) own, (own, tt))

  items-good : (line b : ℕ) (is : List Item) → AreItems n is → AllByRecursion (IsRankedItem table.shapes) is → b + items_slots is ≤ table.slots → AllValid (items_code line b is)
  items-good line b [] ok ranked le = tt
  items-good line b (i ∷ is) ok ranked le =
      let more : b + (item_slots i + items_slots is) ≤ table.slots = le in
      join (item_code line b i) _ (item-good line b i is ok ranked.0 (omega (arith, more))) (items-good line (b + item_slots i) is ok.1 ranked.1 (omega (arith, more)))

  printed-good : (b : ℕ) (i : Item) (is : List Item) → AreItems n (i ∷ is) → IsRankedItem table.shapes i → b + item_slots i ≤ table.slots → IsItem table (print_item b i)
  printed-good b (Text bytes) is ok ranked le = tt
  printed-good b (Value t) is ok ranked le = flat-good 0 b t ok.0 le
  printed-good b (Elements a subs) is ok ranked le = section-good 0 b a subs ok.0.0 ok.0.1 ranked.0 le

  all-printed : (b : ℕ) (is : List Item) → AreItems n is → AllByRecursion (IsRankedItem table.shapes) is → b + items_slots is ≤ table.slots →
      AllByRecursion (IsItem table) (print_items b is)
  all-printed b [] ok ranked le = tt
  all-printed b (i ∷ is) ok ranked le =
      let more : b + (item_slots i + items_slots is) ≤ table.slots = le in
      (printed-good b i is ok ranked.0 (omega (arith, more)), all-printed (b + item_slots i) is ok.1 ranked.1 (omega (arith, more)))

  abbrev IsMaskSpace : Option Masking → Type 0
  IsMaskSpace None = ⊤
  IsMaskSpace (Some m) = IsSpace table m.over × IsCopy table m.when.copy × IsAnchor table (length m.over) m.beside

  is-assignment : (line b a : ℕ) (subs : SectionSubscripts) (t : Term) (mask : Option Masking) → IsMaskSpace mask → IsSection table 0 a (subs_of b subs) →
      IsForm table 0 (form_of (b + subscripts_slots subs) t) → IsAssignment table 0 (assignment line b a subs t mask)
  is-assignment line b a subs t None masked left right = (left, right, (left.0.2, left.1), tt, tt)
  is-assignment line b a subs t (Some m) masked left right = (left, right, masked.0, masked.1, masked.2)

  assignment-good : (line b a : ℕ) (subs : SectionSubscripts) (t : Term) (mask : Option Masking) → IsMaskSpace mask → a < n → AreScalarSubscripts n subs →
      IsArray n t → IsRanked table.shapes 0 (Section a subs) → IsRanked table.shapes 0 t → b + (subscripts_slots subs + parts_slots t) ≤ table.slots →
      AllValid (assignment_code line b a subs t mask)
  assignment-good line b a subs t mask masked below ok ok1 ranked ranked1 le =
      let own = is-assignment line b a subs t mask masked (section-good 0 b a subs below ok ranked.0 (omega (arith, le)))
      (form-good 0 (b + subscripts_slots subs) t ok1 ranked1 (omega (arith, le))) in
      join (subscripts_code line b subs) _ (subscripts-good line b subs ok ranked.1 (omega (arith, le)))
      (join (parts_code line (b + subscripts_slots subs) t) _ (parts-good line (b + subscripts_slots subs) t ok1 ranked1 (omega (arith, le))) (own, (own, (tt, tt))))

  masked-good : (b : ℕ) (m : Masking) (xs : List SectionAssignment) → IsMaskSpace (Some m) → AreMasked n xs → AllByRecursion (IsRankedMasked table.shapes) xs →
      b + masked_slots xs ≤ table.slots → AllValid (masked_code b m xs)
  masked-good b m [] masked ok ranked le = tt
  masked-good b m (x ∷ xs) masked ok ranked le =
      let more : b + max (subscripts_slots x.subscripts + parts_slots x.right) (masked_slots xs) ≤ table.slots = le in
      join (assignment_code x.line b x.array x.subscripts x.right (Some m)) _
      (assignment-good x.line b x.array x.subscripts x.right (Some m) masked ok.0 ok.1 ok.2 ranked.0.0 ranked.0.1 (omega (arith, more)))
      (masked-good b m xs masked ok.3 ranked.1 (omega (arith, more)))

  -- ---- FORALL: `axes` indices

  module _ (axes : ℕ) where
    mutual
      index-flat-good : (t : Term) → IsSubscript n t → IsRanked table.shapes axes t → IsFlat table axes (index_flat t)
      index-flat-good (Number v) ok ranked = tt
      index-flat-good (Scalar k) ok ranked = scalar-slot k ok
      index-flat-good (Index k) ok ranked = ranked
      index-flat-good (Element a ts) ok ranked = absurd ok
      index-flat-good (Section a subs) ok ranked = absurd ok
      index-flat-good (Apply o ts) ok ranked = (ok.0, index-flats-good ts ok.1 ranked)
      index-flat-good (Reduce o t) ok ranked = absurd ok

      index-flats-good : (ts : Terms) → AreSubscripts n ts → AreRanked table.shapes axes ts → AreFlats table axes (index_flats ts)
      index-flats-good NoTerm ok ranked = tt
      index-flats-good (More t ts) ok ranked = (index-flat-good t ok.0 ranked.0, index-flats-good ts ok.1 ranked.1)

    index-subs-good : (ts : Terms) → AreSubscripts n ts → AreRanked table.shapes axes ts → AllByRecursion (IsSub table axes) (index_subs ts)
    index-subs-good NoTerm ok ranked = tt
    index-subs-good (More t ts) ok ranked = (index-flat-good t ok.0 ranked.0, index-subs-good ts ok.1 ranked.1)

    -- an element beside which copies lie
    anchored-good : (ts : Terms) → AreSubscripts n ts → AreRanked table.shapes axes ts → AllByRecursion (IsAnchorSub table axes) (map anchor_sub_code (map AtTerm (list_of ts)))
    anchored-good NoTerm ok ranked = tt
    anchored-good (More t ts) ok ranked = (index-flat-good t ok.0 ranked.0, anchored-good ts ok.1 ranked.1)

    forall-beside-good : (xs : List ElementAssignment) → AreIndexedAssignments n xs → AllByRecursion (IsRankedIndexed table.shapes axes) xs → IsAnchor table axes (forall_beside xs)
    forall-beside-good [] ok ranked = tt
    forall-beside-good (x ∷ xs) ok ranked = (
      reference x.array (length (map anchor_sub_code (map AtTerm (list_of x.subscripts)))) ok.0
          (length-map (map AtTerm (list_of x.subscripts)) anchor_sub_code ∙ length-map (list_of x.subscripts) AtTerm ∙ ranked.0.0.0),
      anchored-good x.subscripts ok.1 ranked.0.0.1,
    )

    listed-good : (ts : Terms) → AreSubscripts n ts → AreRanked table.shapes axes ts → AllByRecursion (IsFlat table axes) (map index_flat (list_of ts))
    listed-good NoTerm ok ranked = tt
    listed-good (More t ts) ok ranked = (index-flat-good t ok.0 ranked.0, listed-good ts ok.1 ranked.1)

    index-section-good : (a : ℕ) (ts : Terms) → a < n → AreSubscripts n ts → IsRanked table.shapes axes (Element a ts) → IsSection table axes a (index_subs ts)
    index-section-good a ts below ok ranked =
        (reference a (length (index_subs ts)) below (index_counted ts ∙ ranked.0), index-subs-good ts ok ranked.1)

    mutual
      index-form-good : (t : Term) → IsIndexed n t → IsRanked table.shapes axes t → IsForm table axes (index_form t)
      index-form-good (Number v) ok ranked = tt
      index-form-good (Scalar k) ok ranked = scalar-slot k ok
      index-form-good (Index k) ok ranked = ranked
      index-form-good (Element a ts) ok ranked = index-section-good a ts ok.0 ok.1 ranked
      index-form-good (Section a subs) ok ranked = tt
      index-form-good (Apply o ts) ok ranked = index-forms-good ts ok ranked
      index-form-good (Reduce o t) ok ranked = absurd ok

      index-forms-good : (ts : Terms) → AreIndexed n ts → AreRanked table.shapes axes ts → AreForms table axes (index_forms ts)
      index-forms-good NoTerm ok ranked = tt
      index-forms-good (More t ts) ok ranked = (index-form-good t ok.0 ranked.0, index-forms-good ts ok.1 ranked.1)

    mutual
      inside-good : (t : Term) → IsIndexed n t → IsRanked table.shapes axes t → AllByRecursion (IsFlat table axes) (map index_flat (subscripts_in t))
      inside-good (Number v) ok ranked = tt
      inside-good (Scalar k) ok ranked = tt
      inside-good (Index k) ok ranked = tt
      inside-good (Element a ts) ok ranked = listed-good ts ok.1 ranked.1
      inside-good (Section a subs) ok ranked = tt
      inside-good (Apply o ts) ok ranked = all-inside-good ts ok ranked
      inside-good (Reduce o t) ok ranked = absurd ok

      all-inside-good : (ts : Terms) → AreIndexed n ts → AreRanked table.shapes axes ts → AllByRecursion (IsFlat table axes) (map index_flat (subscripts_in_all ts))
      all-inside-good NoTerm ok ranked = tt
      all-inside-good (More t ts) ok ranked =
          both_mapped (IsFlat table axes) index_flat (subscripts_in t) (subscripts_in_all ts) (inside-good t ok.0 ranked.0) (all-inside-good ts ok.1 ranked.1)

    mask-inside : (mask : Option Term) → IsIndexedMask n mask → IsRankedMask table.shapes axes mask → AllByRecursion (IsFlat table axes) (map index_flat (mask_subscripts mask))
    mask-inside None ok ranked = tt
    mask-inside (Some t) ok ranked = inside-good t ok ranked

    body-inside : (xs : List ElementAssignment) → AreIndexedAssignments n xs → AllByRecursion (IsRankedIndexed table.shapes axes) xs →
        AllByRecursion (IsFlat table axes) (map index_flat (body_subscripts xs))
    body-inside [] ok ranked = tt
    body-inside (x ∷ xs) ok ranked =
        both_mapped (IsFlat table axes) index_flat (list_of x.subscripts ++ subscripts_in x.right) (body_subscripts xs)
        (both_mapped (IsFlat table axes) index_flat (list_of x.subscripts) (subscripts_in x.right) (listed-good x.subscripts ok.1 ranked.0.0.1) (inside-good x.right ok.2 ranked.0.1))
        (body-inside xs ok.3 ranked.1)

  -- ---- what the copy of a WHERE's mask lies beside

  -- without indices it is one over any space
  mutual
    flat-more : (axes : ℕ) (t : Term) → IsSubscript n t → IsRanked table.shapes 0 t → IsFlat table axes (index_flat t)
    flat-more axes (Number v) ok ranked = tt
    flat-more axes (Scalar k) ok ranked = scalar-slot k ok
    flat-more axes (Index k) ok ranked = omega (arith, ranked)
    flat-more axes (Element a ts) ok ranked = absurd ok
    flat-more axes (Section a subs) ok ranked = absurd ok
    flat-more axes (Apply o ts) ok ranked = (ok.0, flats-more axes ts ok.1 ranked)
    flat-more axes (Reduce o t) ok ranked = absurd ok

    flats-more : (axes : ℕ) (ts : Terms) → AreSubscripts n ts → AreRanked table.shapes 0 ts → AreFlats table axes (index_flats ts)
    flats-more axes NoTerm ok ranked = tt
    flats-more axes (More t ts) ok ranked = (flat-more axes t ok.0 ranked.0, flats-more axes ts ok.1 ranked.1)

  section-terms-good : (axes : ℕ) (subs : SectionSubscripts) → AllByRecursion (IsAnchorTerm n) (section_terms subs) → AreRankedSubscripts table.shapes 0 subs
      → AllByRecursion (IsAnchorSub table axes) (map anchor_sub_code (section_terms subs))
  section-terms-good axes NoSubscript ok ranked = tt
  section-terms-good axes (Subscript t subs) ok ranked = (flat-more axes t ok.0 ranked.0, section-terms-good axes subs ok.1 ranked.1)
  section-terms-good axes (Triplet f l s subs) ok ranked =
      ((flat-more 0 f ok.0.0 ranked.0.0, flat-more 0 s ok.0.1 ranked.0.2), section-terms-good axes subs ok.1 ranked.1)

  section-beside-good : (axes a : ℕ) (subs : SectionSubscripts) (t : Bool) → subscript_count subs ≡ Rank a → AreRankedSubscripts table.shapes 0 subs
      → IsAnchorText n (if t then Some (record { array = a; subscripts = section_terms subs }) else None)
      → IsAnchor table axes (option_map anchor_code (if t then Some (record { array = a; subscripts = section_terms subs }) else None))
  section-beside-good axes a subs false rank ranked ok = tt
  section-beside-good axes a subs true rank ranked ok = (
    reference a (length (map anchor_sub_code (section_terms subs))) ok.0 (length-map (section_terms subs) anchor_sub_code ∙ terms_counted subs ∙ rank),
    section-terms-good axes subs ok.1 ranked,
  )

  where-beside-good : (axes : ℕ) (xs : List SectionAssignment) → IsAnchorText n (where_anchor xs) → AllByRecursion (IsRankedMasked table.shapes) xs → IsAnchor table axes (where_beside xs)
  where-beside-good axes [] ok ranked = tt
  where-beside-good axes (x ∷ xs) ok ranked = section-beside-good axes x.array x.subscripts (are_all_foreknown x.subscripts) ranked.0.0.0 ranked.0.0.1 ok

  -- ---- assignments of a FORALL

  one-to-one-good : (over : List Sub) (xs : List ElementAssignment) → IsSpace table over → AreIndexedAssignments n xs →
      AllByRecursion (IsRankedIndexed table.shapes (length over)) xs → AllValid (one_to_one_code over xs)
  one-to-one-good over [] space ok ranked = tt
  one-to-one-good over (x ∷ xs) space ok ranked =
      ((space, listed-good (length over) x.subscripts ok.1 ranked.0.0.1), one-to-one-good over xs space ok.3 ranked.1)

  forall-assignments-good : (over : List Sub) (mask : Option When) (beside : Option FlatAnchor) (xs : List ElementAssignment) → IsSpace table over → IsMask table mask →
      IsAnchor table (length over) beside → AreIndexedAssignments n xs → AllByRecursion (IsRankedIndexed table.shapes (length over)) xs →
      AllValid (forall_assignments_code over mask beside xs)
  forall-assignments-good over mask beside [] space masked anchored ok ranked = tt
  forall-assignments-good over mask beside (x ∷ xs) space masked anchored ok ranked = (
    (index-section-good (length over) x.array x.subscripts ok.0 ok.1 ranked.0.0, index-form-good (length over) x.right ok.2 ranked.0.1, space, masked, anchored),
    (tt, forall-assignments-good over mask beside xs space masked anchored ok.3 ranked.1),
  )

  -- ---- targets

  -- a whole loop, whose body may leave it or go round again
  entry-good : (line : ℕ) (mark : Mark) (v : ℕ) → v + 4 ≤ table.slots → AllValid (entry_code line mark v)
  entry-good line Unmarked v le = tt
  entry-good line (Outermost nest body) v le = (omega (arith, le), (tt, tt))

  loop-good : (line pc v x : ℕ) (body : ℕ → ℕ → ℕ → List Instruction) → x < table.slots → v + 4 ≤ table.slots → pc + length (loop_code line pc v x body) < table.places →
      ((leave again : ℕ) → leave < table.places → again < table.places → pc + 8 + length (body (pc + 8) leave again) < table.places → AllValid (body (pc + 8) leave again)) →
      AllValid (loop_code line pc v x body)
  loop-good line pc v x body below le inside more =
      let own : List Instruction = body (pc + 8) (pc + 3) (pc + 4) in
      let all : List Instruction = loop_code line pc v x body in
      let long : length all ≡ 9 + length own = omega (arith, length-append own (Jump (pc + 4) ∷ [])) in
      let ends : pc + (9 + length own) < table.places = omega (arith, inside, long) in
      let index : IsValid table (Set line x (Slot v)) = (below, omega (arith, le)) in
      let trips : IsValid table (Trips line v (v + 1) (v + 2) (v + 3) (pc + 3)) =
      (omega (arith, le), omega (arith, le), omega (arith, le), omega (arith, le), omega (arith, ends)) in
      let next : IsValid table (Set line v (Operated op.Add (AndFlat (Slot v) (AndFlat (Slot (v + 2)) NoFlat)))) =
      (omega (arith, le), (omega (arith, le), (omega (arith, le), tt))) in
      let test : IsValid table (JumpIfZero (pc + 3) (v + 3)) = (omega (arith, ends), omega (arith, le)) in
      let count : IsValid table (Set line (v + 3) (Operated op.Sub (AndFlat (Slot (v + 3)) (AndFlat (Int (pos 1)) NoFlat)))) =
      (omega (arith, le), (omega (arith, le), (tt, tt))) in
      let turn = join own (Jump (pc + 4) ∷ []) (more (pc + 3) (pc + 4) (omega (arith, ends)) (omega (arith, ends)) (omega (arith, ends))) (omega (arith, ends), tt) in
      (index, (trips, (omega (arith, ends), (omega (arith, ends), (next, (index, (test, (count, turn))))))))

  -- an arm and the rest, wherever they begin
  arm-good : (line pc b : ℕ) (cond : Term) (body rest : ℕ → List Instruction) → IsScalar n cond → IsRanked table.shapes 0 cond → b + (slots_of cond + 1) ≤ table.slots →
      pc + length (arm_code line pc b cond body rest) < table.places → ((at : ℕ) → at + length (body at) < table.places → AllValid (body at)) →
      ((at : ℕ) → at + length (rest at) < table.places → AllValid (rest at)) → AllValid (arm_code line pc b cond body rest)
  arm-good line pc b cond body rest ok ranked le within inner outer =
      let test : List Instruction = code_of line b cond in
      let x : ℕ = b + slots_of cond in
      let inside : ℕ = pc + length test + 2 in
      let after : ℕ = inside + length (body inside) + 1 in
      let tail : List Instruction = Jump (after + length (rest after)) ∷ rest after in
      let all : List Instruction = Set line x (flat_of b cond) ∷ JumpIfZero after x ∷ (body inside ++ tail) in
      let whole : pc + length (test ++ all) < table.places = within in
      let ends : after + length (rest after) < table.places = omega (arith, whole, length-append test all, length-append (body inside) tail) in
      let set : IsValid table (Set line x (flat_of b cond)) = (omega (arith, le), value-good (flat_of b cond) (flat-good 0 b cond ok (omega (arith, le)))) in
      let jump : IsValid table (JumpIfZero after x) = (omega (arith, ends), omega (arith, le)) in
      let chosen = join (body inside) tail (inner inside (omega (arith, ends))) (ends, outer after ends) in
      join test all (term-good line b cond ok ranked (omega (arith, le))) (set, (jump, chosen))

  -- ---- statements

  where-good : (copy line b : ℕ) (mask : Term) (body others : List SectionAssignment) → IsCopy table copy → IsWellFormed n (Where mask body others) →
      KeepsRanks table.shapes (Where mask body others) → b + (parts_slots mask + max (masked_slots body) (masked_slots others)) ≤ table.slots →
      AllValid (where_code copy line b mask body others)
  where-good copy line b mask body others is-copy ok ranked le =
      let p : Evaluation = copied_evaluation line (form_of b mask) (where_beside (body ++ others)) in
      let anchored : IsAnchor table (length p.over) p.beside =
      where-beside-good (length p.over) (body ++ others) (where-anchored n (body ++ others) (masked-append n body others ok.1 ok.2))
      (both (IsRankedMasked table.shapes) body others ranked.1 ranked.2) in
      let form = form-good 0 b mask ok.0 ranked.0 (omega (arith, le)) in
      let space : IsSpace table p.over = own-space (first_subs (form_of b mask)) (first-space (form_of b mask) form) in
      let own : IsEvaluation table 0 p = (form, space, anchored) in
      let copied : IsValid table (MakeCopy copy p) = (is-copy, (form-good (length p.over) b mask ok.0 ranked.0 (omega (arith, le)), space, anchored)) in
      let masking : Bool → Masking = λ value. record { over = p.over; when = where_true copy value; beside = p.beside } in
      let inside = masked-good (b + parts_slots mask) (masking true) body (space, is-copy, anchored) ok.1 ranked.1 (omega (arith, le)) in
      let outside = masked-good (b + parts_slots mask) (masking false) others (space, is-copy, anchored) ok.2 ranked.2 (omega (arith, le)) in
      let rest = join (masked_code (b + parts_slots mask) (masking true) body) _ inside outside in
      join (parts_code line b mask) _ (parts-good line b mask ok.0 ranked.0 (omega (arith, le))) (own, (copied, ((is-copy, own), (tt, rest))))

  header-scalar : (cs : List Control) → AreControls n cs → AreScalarSubscripts n (triplets cs)
  header-scalar [] ok = tt
  header-scalar (c ∷ cs) ok = (ok.0, header-scalar cs ok.1)

  header-ranked : (cs : List Control) → AllByRecursion (IsRankedControl table.shapes) cs → AreRankedSubscripts table.shapes 0 (triplets cs)
  header-ranked [] ranked = tt
  header-ranked (c ∷ cs) ranked = (ranked.0, header-ranked cs ranked.1)

  mask-good : (copy line : ℕ) (over : List Sub) (beside : Option FlatAnchor) (mask : Option Term) → IsCopy table copy → IsSpace table over →
      IsAnchor table (length over) beside → IsIndexedMask n mask → IsRankedMask table.shapes (length over) mask → AllValid (forall_mask_code copy line over beside mask)
  mask-good copy line over beside None is-copy space anchored ok ranked = tt
  mask-good copy line over beside (Some t) is-copy space anchored ok ranked =
      let own = index-form-good (length over) t ok ranked in ((is-copy, (own, space, anchored)), ((is-copy, (own, space, anchored)), (tt, tt)))

  masked-by : (copy : ℕ) (mask : Option Term) → IsCopy table copy → IsMask table (option_map (λ t. where_true copy true) mask)
  masked-by copy None is-copy = tt
  masked-by copy (Some t) is-copy = is-copy

  forall-good : (copy line b : ℕ) (cs : List Control) (mask : Option Term) (body : List ElementAssignment) → IsCopy table copy → IsWellFormed n (Forall cs mask body) →
      KeepsRanks table.shapes (Forall cs mask body) → b + subscripts_slots (triplets cs) ≤ table.slots → AllValid (forall_code copy line b cs mask body)
  forall-good copy line b cs mask body is-copy ok ranked le =
      let over : List Sub = subs_of b (triplets cs) in
      let axes : length over ≡ length cs = subs_counted b (triplets cs) ∙ triplets_counted cs in
      let most : length cs ≤ MAX_INDICES = ranked.0 in
      let header = header-scalar cs ok.0 in
      let space : IsSpace table over = (omega (arith, axes, most), subs-good 0 b (triplets cs) header le) in
      let by : IsRankedMask table.shapes (length over) mask = subst (λ k. IsRankedMask table.shapes k mask) (sym axes) ranked.2 in
      let all : AllByRecursion (IsRankedIndexed table.shapes (length over)) body = subst (λ k. AllByRecursion (IsRankedIndexed table.shapes k) body) (sym axes) ranked.3 in
      let anchored : IsAnchor table (length over) (forall_beside body) = forall-beside-good (length over) body ok.2 all in
      join (subscripts_code line b (triplets cs)) _ (subscripts-good line b (triplets cs) header (header-ranked cs ranked.1) le) (
        (
          space,
          both_mapped (IsFlat table (length over)) index_flat (mask_subscripts mask) (body_subscripts body) (mask-inside (length over) mask ok.1 by)
              (body-inside (length over) body ok.2 all),
        ),
        join (one_to_one_code over body) _ (one-to-one-good over body space ok.2 all)
            (join (forall_mask_code copy line over (forall_beside body) mask) _ (mask-good copy line over (forall_beside body) mask is-copy space anchored ok.1 by)
            (forall-assignments-good over (option_map (λ t. where_true copy true) mask) (forall_beside body) body space (masked-by copy mask is-copy) anchored ok.2 all)),
      )

  -- ---- transformations of whole arrays

  module _ (axes : ℕ) where
    above-good : (k : ℕ) (d : Dim) → k < axes → IsFlat table axes (index_flat (above_lower k d))
    above-good k d lt = (refl, (lt, (tt, tt)))

    from-good : (e : Dim) (t : Term) → IsFlat table axes (index_flat t) → IsFlat table axes (index_flat (from_lower e t))
    from-good e t ok = (refl, (ok, (tt, tt)))

    turned-good : (m : ℕ) (t : Term) → IsFlat table axes (index_flat t) → IsFlat table axes (index_flat (turned m t))
    turned-good m t ok = (refl, (ok, ((refl, (tt, ((refl, (ok, (tt, tt))), tt))), tt)))

    indices-good : (k : ℕ) (ds : List Dim) → k + length ds ≤ axes → AllByRecursion (IsSub table axes) (index_subs (indices_from k ds))
    indices-good k [] le = tt
    indices-good k (d ∷ ds) le = (omega (arith, le), indices-good (suc k) ds (omega (arith, le)))

    places-good : (k : ℕ) (ds es : List Dim) → k + length ds ≤ axes → AllByRecursion (IsSub table axes) (index_subs (same_places k ds es))
    places-good k [] es le = tt
    places-good k (d ∷ ds) [] le = tt
    places-good k (d ∷ ds) (e ∷ es) le = (from-good e (above_lower k d) (above-good k d (omega (arith, le))), places-good (suc k) ds es (omega (arith, le)))

    source-good : (how : Transformation) (turn : Term) (ds es : List Dim) → IsFlat table axes (index_flat turn) → length ds ≤ axes →
        AllByRecursion (IsSub table axes) (index_subs (source_subscripts how turn ds es))
    source-good (CircularShift by) turn (d ∷ ds) (e ∷ es) ok le =
        let start = above-good 0 d (omega (arith, le)) in
        let on : Term = applied op.Add (above_lower 0 d) turn in
        let moved : IsFlat table axes (index_flat on) = (refl, (start, (ok, tt))) in
        (from-good e (turned (extent d) on) (turned-good (extent d) on moved), places-good 1 ds es (omega (arith, le)))
    source-good (CircularShift by) turn [] es ok le = tt
    source-good (CircularShift by) turn (d ∷ ds) [] ok le = tt
    source-good Transposition turn (d ∷ d' ∷ []) (e ∷ e' ∷ []) ok le =
        (from-good e (above_lower 1 d') (above-good 1 d' (omega (arith, le))), (from-good e' (above_lower 0 d) (above-good 0 d (omega (arith, le))), tt))
    source-good Transposition turn ds es ok le = tt
    source-good PrefixSum turn ds es ok le = let all : 0 + length ds ≤ axes = omega (arith, le) in places-good 0 ds es all

  -- over the subscripts of a whole array
  whole-space : (b : ℕ) (x : WholeArray) → IsDeclared table.shapes x → b + subscripts_slots (whole x.dims) ≤ table.slots → IsSpace table (subs_of b (whole x.dims))
  whole-space b x known le =
      let count : length (subs_of b (whole x.dims)) ≡ Rank x.array = subs_counted b (whole x.dims) ∙ whole-counted x.dims ∙ ap length known.0 in
      let most : Rank x.array ≤ MAX_RANK = few x.array in
      (omega (arith, count, most), subs-good 0 b (whole x.dims) (whole-scalar n x.dims) le)

  whole-good : (line b : ℕ) (x : WholeArray) → b + subscripts_slots (whole x.dims) ≤ table.slots → AllValid (subscripts_code line b (whole x.dims))
  whole-good line b x le = subscripts-good line b (whole x.dims) (whole-scalar n x.dims) (whole-ranked table.shapes 0 x.dims) le

  turn-good : (line b : ℕ) (x : WholeArray) (how : Transformation) → IsTransformation n how → IsRankedTransformation table.shapes how → b + turn_slots x how ≤ table.slots →
      AllValid (turn_code line b x how)
  turn-good line b x (CircularShift by) ok ranked le = term-good line b (Apply op.Modulo (turn_operands x by)) (ok, (tt, tt)) (ranked, (tt, tt)) le
  turn-good line b x Transposition ok ranked le = tt
  turn-good line b x PrefixSum ok ranked le = tt

  turn-flat : (axes b : ℕ) (x : WholeArray) (how : Transformation) → b + turn_slots x how ≤ table.slots → IsFlat table axes (index_flat (turn_in_slot b x how))
  turn-flat axes b x (CircularShift by) le = let more : b + (all_slots_of (turn_operands x by) + 1) ≤ table.slots = le in omega (arith, more)
  turn-flat axes b x Transposition le = tt
  turn-flat axes b x PrefixSum le = tt

  ordered-space : (how : Transformation) (over : List Sub) → IsSpace table over → IsSpace table (in_order how over)
  ordered-space (CircularShift by) over space = space
  ordered-space PrefixSum over space = space
  ordered-space Transposition over space = (omega (arith, space.0, length-reverse over), all_reversed (IsSub table 0) over space.1)

  module _ (copy line b b1 b2 : ℕ) (is-copy : IsCopy table copy) (x y : WholeArray) (how : Transformation) (xs : x.array < n) (ys : y.array < n)
      (ranks : AreTransformed table.shapes x y how) (turns : b + turn_slots x how ≤ table.slots) (target : b1 + subscripts_slots (whole x.dims) ≤ table.slots)
      (source : b2 + subscripts_slots (whole y.dims) ≤ table.slots) where
    assigned-good : IsAssignment table (length (subs_of b1 (whole x.dims))) (transform_assignment line b b1 x y how)
    assigned-good =
        let over : List Sub = subs_of b1 (whole x.dims) in
        let turn : Term = turn_in_slot b x how in
        let axes : length over ≡ length x.dims = subs_counted b1 (whole x.dims) ∙ whole-counted x.dims in (
          (
            reference x.array (length (index_subs (indices_from 0 x.dims))) xs (indices_counted 0 x.dims ∙ ap length ranks.0.0),
            indices-good (length over) 0 x.dims (omega (arith, axes)),
          ),
          (
            reference y.array (length (index_subs (source_subscripts how turn x.dims y.dims))) ys (source_counted how turn x.dims y.dims ranks.2 ranks.3 ∙ ap length ranks.1.0),
            source-good (length over) how turn x.dims y.dims (turn-flat (length over) b x how turns) (omega (arith, axes)),
          ),
          whole-space b1 x ranks.0 target,
          tt,
          tt,
        )

    misfit-good : IsAssignment table 0 (misfit line b1 b2 x y how)
    misfit-good = (
      section-good 0 b2 y.array (whole y.dims) ys (whole-scalar n y.dims) (whole-counted y.dims ∙ ap length ranks.1.0) source,
      tt,
      ordered-space how (subs_of b1 (whole x.dims)) (whole-space b1 x ranks.0 target),
      tt,
      tt,
    )

    whole-evaluated : IsEvaluation table 0 (whole_evaluation line b2 y)
    whole-evaluated = (
      section-good 0 b2 y.array (whole y.dims) ys (whole-scalar n y.dims) (whole-counted y.dims ∙ ap length ranks.1.0) source,
      whole-space b2 y ranks.1 source,
      tt,
    )

    copy-evaluated : IsEvaluation table (length (subs_of b2 (whole y.dims))) (whole_evaluation line b2 y)
    copy-evaluated = (
      section-good (length (subs_of b2 (whole y.dims))) b2 y.array (whole y.dims) ys (whole-scalar n y.dims) (whole-counted y.dims ∙ ap length ranks.1.0) source,
      whole-space b2 y ranks.1 source,
      tt,
    )

    copy-assigned : IsNestStatement table (copy_assignment copy line b1 x)
    copy-assigned =
        let over : List Sub = subs_of b1 (whole x.dims) in
        let axes : length over ≡ length x.dims = subs_counted b1 (whole x.dims) ∙ whole-counted x.dims in
        record {
          over = whole-space b1 x ranks.0 target;
          whens = tt;
          copies = (is-copy, tt);
          left = (
            reference x.array (length (index_subs (indices_from 0 x.dims))) xs (indices_counted 0 x.dims ∙ ap length ranks.0.0),
            indices-good (length over) 0 x.dims (omega (arith, axes)),
          );
          right = omega (arith, axes);
          beside = tt;
        }

    agreed-good : (how' : Transformation) → how ≡ how' → AllValid (agreed_code copy line b b1 b2 x y how')
    agreed-good (CircularShift by) e = (subst (λ h. IsAssignment table (length (subs_of b1 (whole x.dims))) (transform_assignment line b b1 x y h)) e assigned-good, tt)
    agreed-good Transposition e = (subst (λ h. IsAssignment table (length (subs_of b1 (whole x.dims))) (transform_assignment line b b1 x y h)) e assigned-good, tt)
    agreed-good PrefixSum e = join (subscripts_code line b2 (whole y.dims)) _ (whole-good line b2 y source)
        ((is-copy, copy-evaluated), ((is-copy, whole-evaluated), (is-copy, (copy-assigned, tt))))

    fitted-good : (fits : Bool) → AllValid (fitted_code fits copy line b b1 b2 x y how)
    fitted-good true = agreed-good how refl
    fitted-good false = join (subscripts_code line b2 (whole y.dims)) _ (whole-good line b2 y source) (misfit-good, tt)

  transform-good : (copy line b : ℕ) → IsCopy table copy → (x y : WholeArray) (how : Transformation) → IsWellFormed n (Transform x y how) → KeepsRanks table.shapes (Transform x y how) →
      b + (turn_slots x how + (subscripts_slots (whole x.dims) + subscripts_slots (whole y.dims))) ≤ table.slots → AllValid (transform_code copy line b x y how)
  transform-good copy line b is-copy x y how ok ranked le =
      let b1 : ℕ = b + turn_slots x how in
      let b2 : ℕ = b1 + subscripts_slots (whole x.dims) in
      join (turn_code line b x how) _ (turn-good line b x how ok.2 ranked.1 (omega (arith, le)))
      (join (subscripts_code line b1 (whole x.dims)) _ (whole-good line b1 x (omega (arith, le)))
      (fitted-good copy line b b1 b2 is-copy x y how ok.0 ok.1 ranked.0 (omega (arith, le)) (omega (arith, le)) (omega (arith, le)) (has_shape x y how)))

  module _ (copied : 1 ≤ table.copies) (moves : ℕ → List NewMapping) (moving : (line : ℕ) → IsValid table (Remap line (moves line))) where
    is-copy : IsCopy table n
    is-copy = (omega (arith, declared), omega (arith, declared, copied))

    -- loops that are no nest with statements
    plain-good : (line b pc : ℕ) (mark : Mark) (loop : Loop) (body : Block) (bcode : ℕ → ℕ → ℕ → List Instruction) → loop.index < n → IsControl n loop.control
        → IsRankedControl table.shapes loop.control → b + (control_slots loop.control + 4) ≤ table.slots
        → pc + length ((control_code line b loop.control ++ entry_code line mark (b + control_slots loop.control))
        ++ loop_code line (pc + length (control_code line b loop.control ++ entry_code line mark (b + control_slots loop.control))) (b + control_slots loop.control) loop.index bcode) < table.places
        → ((at leave again : ℕ) → leave < table.places → again < table.places → at + length (bcode at leave again) < table.places → AllValid (bcode at leave again))
        → AllValid ((control_code line b loop.control ++ entry_code line mark (b + control_slots loop.control))
        ++ loop_code line (pc + length (control_code line b loop.control ++ entry_code line mark (b + control_slots loop.control))) (b + control_slots loop.control) loop.index bcode)
    plain-good line b pc mark loop body bcode lx ok ranked le within inside =
        let v : ℕ = b + control_slots loop.control in
        let c : List Instruction = control_code line b loop.control ++ entry_code line mark v in
        let rest : List Instruction = loop_code line (pc + length c) v loop.index bcode in
        join c rest
        (join (control_code line b loop.control) (entry_code line mark v) (control-good line b loop.control ok ranked (omega (arith, le))) (entry-good line mark v (omega (arith, le))))
        (loop-good line (pc + length c) v loop.index bcode (scalar-slot loop.index lx) (omega (arith, le)) (omega (arith, within, length-append c rest))
        (λ leave again out back here. inside (pc + length c + 8) leave again out back here))

    mutual
      statement-good : (st : Statement) (line b pc leave again : ℕ) → IsWellFormed n st → HasForms st → KeepsRanks table.shapes st → statement_copies n st ≤ table.copies → b + statement_slots st ≤ table.slots →
          pc + length (statement_code n moves line st b pc leave again) < table.places → leave < table.places → again < table.places →
          AllValid (statement_code n moves line st b pc leave again)
      statement-good (AssignScalar k t) line b pc leave again ok forms ranked room le within away round =
          join (code_of line b t) _ (term-good line b t ok.1 ranked le) ((scalar-slot k ok.0, value-good (flat_of b t) (flat-good 0 b t ok.1 le)), tt)
      statement-good (AssignElement a ts t) line b pc leave again ok forms ranked room le within away round =
          let more : b + (all_slots_of ts + slots_of t) ≤ table.slots = le in
          let own = element-good a b ts ok.0 ok.1 ranked.0.0 (omega (arith, more)) in
          join (codes_of line b ts) _ (terms-good line b ts ok.1 ranked.0.1 (omega (arith, more))) (
            own,
            join (code_of line (b + all_slots_of ts) t) _ (term-good line (b + all_slots_of ts) t ok.2 ranked.1 (omega (arith, more)))
                ((own, flat-good 0 (b + all_slots_of ts) t ok.2 (omega (arith, more))), tt),
          )
      statement-good (AssignSection a subs t) line b pc leave again ok forms ranked room le within away round =
          assignment-good line b a subs t None tt ok.0 ok.1 ok.2 ranked.0 ranked.1 le
      statement-good (Transform x y how) line b pc leave again ok forms ranked room le within away round = transform-good n line b is-copy x y how ok ranked le
      statement-good (If arms other) line b pc leave again ok forms ranked room le within away round =
          let more : b + max (arms_slots arms) (block_slots other) ≤ table.slots = le in
          arms-good arms (λ pc. block_code n moves other b pc leave again) b pc leave again ok.0 forms.0 ranked.0 (omega (arith, room)) (omega (arith, more)) within away round
          (λ at here. block-good other b at leave again ok.1 forms.1 ranked.1 (omega (arith, room)) (omega (arith, more)) here away round)
      statement-good (Do Unmarked loop body) line b pc leave again ok forms ranked room le within away round =
          plain-good line b pc Unmarked loop body (block_code n moves body (b + control_slots loop.control + 4)) ok.0 ok.1 ranked.0 (omega (arith, le)) within
          (λ at leave again out back here. block-good body (b + control_slots loop.control + 4) at leave again ok.2 forms ranked.1 room (omega (arith, le)) here out back)
      statement-good (Do (Outermost nest Done) loop body) line b pc leave again ok forms ranked room le within away round =
          plain-good line b pc (Outermost nest Done) loop body (block_code n moves body (b + control_slots loop.control + 4)) ok.0 ok.1 ranked.0 (omega (arith, le)) within
          (λ at leave again out back here. block-good body (b + control_slots loop.control + 4) at leave again ok.2 (formed_nest n nest loop body Done forms ok.2).forms ranked.1 room
          (omega (arith, le)) here out back)
      statement-good (Do (Outermost nest (Then l st rest)) loop body) line b pc leave again ok forms ranked room le within away round =
          let v : ℕ = b + control_slots loop.control in
          let c : List Instruction = control_code line b loop.control ++ entry_code line (Outermost nest (Then l st rest)) v in
          let own : List Instruction = nest_code n line nest (Then l st rest) v (pc + length c) in
          let loops : length nest.loops ≡ suc (length forms.form.inner) = ap length forms.form.loops in
          let more : b + (control_slots loop.control + nest_slots nest (Then l st rest)) ≤ table.slots = le in
          join c own
          (join (control_code line b loop.control) (entry_code line (Outermost nest (Then l st rest)) v) (control-good line b loop.control ok.1 ranked.0 (omega (arith, more, loops)))
          (entry-good line (Outermost nest (Then l st rest)) v (omega (arith, more, loops))))
          (nest-names table n declared few roomy line v (pc + length c) nest loop body (Then l st rest) forms ok.2 ok.0 ranked.1 room (omega (arith, more)) (omega (arith, within, length-append c own)))
      statement-good (Where mask body others) line b pc leave again ok forms ranked room le within away round = where-good n line b mask body others is-copy ok ranked le
      statement-good (Forall cs mask body) line b pc leave again ok forms ranked room le within away round = forall-good n line b cs mask body is-copy ok ranked le
      statement-good (statements.Print items) line b pc leave again ok forms ranked room le within away round =
          join (items_code line b items) _ (items-good line b items ok ranked le) (all-printed b items ok ranked le, tt)
      statement-good Stop line b pc leave again ok forms ranked room le within away round = (tt, tt)
      statement-good Exit line b pc leave again ok forms ranked room le within away round = (away, tt)
      statement-good Cycle line b pc leave again ok forms ranked room le within away round = (round, tt)
      statement-good Continue line b pc leave again ok forms ranked room le within away round = tt
      statement-good Redistribute line b pc leave again ok forms ranked room le within away round = (moving line, tt)

      arms-good : (arms : Arms) (rest : ℕ → List Instruction) (b pc leave again : ℕ) → AreWellFormedArms n arms → ArmsHaveForms arms → ArmsKeepRanks table.shapes arms → arms_copies n arms ≤ table.copies →
          b + arms_slots arms ≤ table.slots → pc + length (arms_code n moves arms rest b pc leave again) < table.places → leave < table.places → again < table.places →
          ((at : ℕ) → at + length (rest at) < table.places → AllValid (rest at)) → AllValid (arms_code n moves arms rest b pc leave again)
      arms-good NoArm rest b pc leave again ok forms ranked room le within away round more = more pc within
      arms-good (Arm line cond body arms) rest b pc leave again ok forms ranked room le within away round more =
          let all : b + max (slots_of cond + 1) (max (block_slots body) (arms_slots arms)) ≤ table.slots = le in
          arm-good line pc b cond (λ pc. block_code n moves body b pc leave again) (λ pc. arms_code n moves arms rest b pc leave again) ok.0 ranked.0 (omega (arith, all)) within
          (λ at here. block-good body b at leave again ok.1 forms.0 ranked.1 (omega (arith, room)) (omega (arith, all)) here away round)
          (λ at here. arms-good arms rest b at leave again ok.2 forms.1 ranked.2 (omega (arith, room)) (omega (arith, all)) here away round more)

      block-good : (bl : Block) (b pc leave again : ℕ) → IsWellFormedBlock n bl → BlockHasForms bl → BlockKeepsRanks table.shapes bl → block_copies n bl ≤ table.copies → b + block_slots bl ≤ table.slots →
          pc + length (block_code n moves bl b pc leave again) < table.places → leave < table.places → again < table.places → AllValid (block_code n moves bl b pc leave again)
      block-good Done b pc leave again ok forms ranked room le within away round = tt
      block-good (Then line st rest) b pc leave again ok forms ranked room le within away round =
          let more : b + max (statement_slots st) (block_slots rest) ≤ table.slots = le in
          let first : List Instruction = statement_code n moves line st b pc leave again in
          let others : List Instruction = block_code n moves rest b (pc + length first) leave again in
          let whole : pc + length (first ++ others) < table.places = within in
          join first others (statement-good st line b pc leave again ok.0 forms.0 ranked.0 (omega (arith, room)) (omega (arith, more)) (omega (arith, whole, length-append first others)) away round)
          (block-good rest b (pc + length first) leave again ok.1 forms.1 ranked.1 (omega (arith, room)) (omega (arith, more)) (omega (arith, whole, length-append first others)) away round)

-- ---- programs

at-place : (table : CodeTable) (code : List Instruction) (at : ℕ) (i : Instruction) → AllByRecursion (IsValid table) code → slice_get code at ≡ Some i → IsValid table i
at-place table [] at i h is = absurd cc
at-place table (x ∷ xs) zero i h is = let same : x ≡ i = cc in subst (IsValid table) same h.0
at-place table (x ∷ xs) (suc at) i h is = at-place table xs at i h.1 is

closed-by : (xs : List Instruction) (target : ℕ) → is_closed (xs ++ Jump target ∷ []) ≡ true
closed-by [] target = refl
closed-by (x ∷ []) target = refl
closed-by (x ∷ y ∷ ys) target = closed-by (y ∷ ys) target

pub program-valid : (table : CodeTable) (n : ℕ) (moves : ℕ → List NewMapping) (body : Block) → length table.shapes ≡ n → AreFewDims table.shapes → n + block_slots body ≤ table.slots →
    block_copies n body ≤ table.copies → length (program_code n moves body) ≡ table.places → ((line : ℕ) → IsValid table (Remap line (moves line))) →
    IsWellFormedBlock n body → BlockHasForms body → BlockKeepsRanks table.shapes body → IsValidNodeCode table (program_code n moves body)
program-valid table n moves body declared few slots copies places moving ok forms ranked =
    let own : List Instruction = block_code n moves body n 2 1 1 in
    let all : List Instruction = own ++ Jump 1 ∷ [] in
    let long : length (Jump 2 ∷ Halt ∷ all) ≡ table.places = places in
    let count : length all ≡ length own + 1 = length-append own (Jump 1 ∷ []) in
    let roomy : n ≤ table.slots = omega (arith, slots) in
    let within : 2 + length own < table.places = omega (arith, long, count) in
    let block = block-good table n declared few roomy (let some = some_copy n body in omega (arith, some, copies)) moves moving body n 2 1 1 ok forms ranked copies slots within (omega (arith, within)) (omega (arith, within)) in
    let code : AllByRecursion (IsValid table) (program_code n moves body) =
    (omega (arith, within), (tt, join table n declared few roomy own (Jump 1 ∷ []) block (omega (arith, within), tt))) in
    record {
      each = λ at i is. at-place table (program_code n moves body) at i code is;
      whole = places;
      closed = closed-by (Jump 2 ∷ Halt ∷ own) 1;
    }
