-- The code of a circular shift, of a transpose and of a prefix sum does what these mean.
use Rattle.node_code.specs.Instructions.{NewMapping, Instruction, Limits, ParForall, MakeCopy, ParCopy, ScanCopy, ParNest}
use Rattle.code_meaning.specs.Instructions.{ArrayTable, go_on_if}
use Rattle.std.proofs.Common.{◌≡◌, ℕ, suc, ◌+◌, ◌<◌, ◌≤◌, ◌≢◌, ◌&&◌, List, [], ◌∷◌, ◌++◌, map, length, ℤ, pos, negsuc, neg_ℤ, ◌+ℤ◌, ◌-ℤ◌, int_div, unsigned_abs, Bool, true, false, if◌then◌else◌, All, Option, Some, None, Result, Ok, Err, bytes_eq, reverse, refl, sym, ap, ◌∙◌, subst, arith, length-append, append-nil, slice_get, ◌==◌}
use Rattle.std.proofs.Math.Nat.{div-one}
use Rattle.std.proofs.lemmas.Bool.{le-leb}
use Rattle.std.proofs.lemmas.Bool.Decides.{Decides-int_eq}
use Rattle.hpf_base.specs.declared.limits.TheConstants.{MAX_ELEMENTS}
use Rattle.hpf_base.specs.ElementOrder.{product}
use Rattle.op_tables.specs.declared.join.Join.TheVariants.{Sum}
use Rattle.op_tables.specs.declared.op.Op.TheVariants as op
use Rattle.op_tables.specs.Operators.{wrapped, is_zero}
use Rattle.expression_rules.specs.declared.dims.Dim.{Dim}
use Rattle.expression_rules.specs.Dims.{at_least_none, extent, IsDim}
use Rattle.storage.specs.Storage.{Storage, read}
use Rattle.array_meaning.specs.declared.faults.FaultKind.TheVariants.{Shape}
use Rattle.array_meaning.specs.declared.sections.Sequence.{Sequence}
use Rattle.array_meaning.specs.declared.sections.Selection.{Selection}
use Rattle.array_meaning.specs.declared.sections.Selection.TheVariants.{Along}
use Rattle.array_meaning.specs.declared.sections.Store.{Store}
use Rattle.array_meaning.specs.Terms.{Term, Number, Scalar, Index, Element, Apply, NoTerm, More}
use Rattle.array_meaning.specs.Statements.{WholeArray, Transformation, CircularShift, Transposition, PrefixSum}
use Rattle.array_meaning.specs.Faults.{Cause, ◌>>=◌, fails, with_more, at_tuple}
use Rattle.array_meaning.specs.State.{State, store_all}
use Rattle.array_meaning.specs.Runs.{Run, normal, one_step}
use Rattle.array_meaning.specs.Sections.{sequence, value_count, extents, subscripts_at, space_size}
use Rattle.array_meaning.specs.Elementals.{operated, unless_zero}
use Rattle.array_meaning.specs.Expressions.{value, values, selections}
use Rattle.array_meaning.specs.ArrayAssignments.{store_at, if_true}
use Rattle.array_meaning.specs.Forall.{indices_at}
use Rattle.array_meaning.specs.Resolution.{whole}
use Rattle.array_meaning.specs.Transformations.{extents_of, shift_of, has_shape, transformed, transform}
use Rattle.machine_steps.specs.Space.{space_count}
use Rattle.machine_steps.specs.Instr.{Running}
use Rattle.machine_steps.specs.Machine as machine
use Rattle.code_meaning.specs.Flat.{slot}
use Rattle.code_meaning.specs.Forms.{selections_at, selections_in, elemental_at}
use Rattle.node_code.specs.Parallel.{Assignment}
use Rattle.code_meaning.specs.Parallel.{at_line, outcome_if, spot_of, reads_at, assigned_value, assignment_size, forall_tuples, forall_spot}
use Rattle.program_code.specs.ExpressionCode.{slots_of, all_slots_of, flat_of, code_of, subscripts_slots, subs_of, subscripts_code, index_form}
use Rattle.program_code.specs.StatementCode.{turn_operands, turn_slots, turn_code, turn_in_slot, transform_assignment, in_order, misfit, whole_evaluation, copy_assignment, prefix_code, agreed_code, fitted_code, transform_code}
use Rattle.statement_trail.specs.Trail.{Trail, ElementsAssigned, after_value, reached, value_trail, selections_trail, shift_trail, transformed_trail, transform_trail}
use Rattle.statement_trail.specs.TransformedElements.{bounds_of, axes_of, indices_from, same_places, shifted_subscripts, source_subscripts, source_element, first_extent, turn_of}
use Rattle.lowered_expressions.specs.WellFormed.{IsSubscript, AreSubscripts, IsIndexed, IsTransformation}
use Rattle.lowered_expressions.specs.Passed.{AreSameForms, note, IsTrail}
use Rattle.lowered_expressions.proofs.Terms.{HoldsArrays, HoldsScalars, Gives}
use Rattle.lowered_expressions.proofs.Reach.{still, comes-as, HasAt, has-front, has-back, SameBelow, same-refl, stands, one, Comes, comes-at, comes-here}
use Rattle.lowered_expressions.proofs.Goes.{Holds, Goes, goes-on, goes-at, goes-value, ends-bind}
use Rattle.lowered_expressions.proofs.Scatter.{Does, values_of}
use Rattle.lowered_expressions.proofs.Indexed.{axes-extents}
use Rattle.transformed_elements.proofs.Shifts.{small}
use Rattle.transformed_elements.proofs.Places.{all-places}
use Rattle.transformed_elements.proofs.Elements.{transforms-as-elements}
use Rattle.lowering.specs.Ranks.{IsRankOf, AreTransformed}
use Rattle.lowered_nests.proofs.NestRuns.{HasCopies}
use Rattle.lowering.proofs.PrefixSums.{prefix-goes}
use Rattle.lowering.proofs.Wholes.{elements_are, target_indexed, whole-scalar}
use Rattle.lowering.proofs.Parts.{SubsGive, term-comes, subscripts-come}
use Rattle.lowering.proofs.Storing.{passes-go}
use Rattle.lowering.proofs.IndexedStores.{extents-are, indices-are, indexed-does}

-- ---- the subscripts of a whole array

by_one : (z : ℤ) → int_div z (pos 1) ≡ z
by_one (pos n) = ap pos (div-one n)
by_one (negsuc n) = ap (λ m. neg_ℤ (pos m)) (div-one (suc n))

dim_selects : (d : Dim) → IsDim d → sequence d.lower d.upper (pos 1) ≡ Ok (bounds_of d)
dim_selects d ok =
    ap counted
    (ap (λ a. value_count a (wrapped d.upper) (wrapped (pos 1))) (let low = ok.lower in small d.lower (omega (arith, low)))
    ∙ ap (λ b. value_count d.lower b (wrapped (pos 1))) (let high = ok.upper in small d.upper (omega (arith, high)))
    ∙ ap (value_count d.lower d.upper) (small (pos 1) (omega arith)) ∙ ap at_least_none (by_one (d.upper -ℤ d.lower +ℤ pos 1)))
  where
    counted : ℕ → Result Sequence Cause
    counted k = Ok record { first = d.lower; step = pos 1; count = k }

whole_selects : (s : State) (ds : List Dim) → All IsDim ds → selections [] s (whole ds) ≡ Ok (map Along (map bounds_of ds))
whole_selects s [] ok = refl
whole_selects s (d ∷ ds) ok =
    ap (λ q. with_more (q >>= (λ p. Ok (Along p))) (selections [] s (whole ds))) (dim_selects d (ok 0 d (omega arith)))
    ∙ ap (with_more (Ok (Along (bounds_of d)))) (whole_selects s ds (λ k e lt. ok (suc k) e (omega (arith, lt))))

whole_trail : (line : ℕ) (s : State) (ds : List Dim) → selections_trail line s (whole ds) ≡ []
whole_trail line s [] = refl
whole_trail line s (d ∷ ds) = whole_trail line s ds

-- ---- the sides of the assignment of elements

places_indexed : (n k : ℕ) (ds es : List Dim) → AreSubscripts n (same_places k ds es)
places_indexed n k [] es = tt
places_indexed n k (d ∷ ds) [] = tt
places_indexed n k (d ∷ ds) (e ∷ es) = ((refl, ((refl, (tt, (tt, tt))), (tt, tt))), places_indexed n (suc k) ds es)

source_indexed : (n : ℕ) (how : Transformation) (v : ℤ) (ds es : List Dim) → AreSubscripts n (source_subscripts how (Number v) ds es)
source_indexed n (CircularShift by) v (d ∷ ds) (e ∷ es) =
    let turned : IsSubscript n (Apply op.Add (More (Apply op.Sub (More (Index 0) (More (Number d.lower) NoTerm))) (More (Number v) NoTerm))) =
    (refl, ((refl, (tt, (tt, tt))), (tt, tt))) in
    ((refl, ((refl, (turned, ((refl, (tt, ((refl, (turned, (tt, tt))), tt))), tt))), (tt, tt))), places_indexed n 1 ds es)
source_indexed n (CircularShift by) v [] es = tt
source_indexed n (CircularShift by) v (d ∷ ds) [] = tt
source_indexed n Transposition v (d ∷ d' ∷ []) (e ∷ e' ∷ []) = ((refl, ((refl, (tt, (tt, tt))), (tt, tt))), ((refl, ((refl, (tt, (tt, tt))), (tt, tt))), tt))
source_indexed n Transposition v ds es = tt
source_indexed n PrefixSum v ds es = places_indexed n 0 ds es

-- a slot in the right side is as the number that it has
slot_evaluates : (a x : ℕ) (v : ℤ) (slots : List ℤ) (ds es : List Dim) → slot slots x ≡ v
    → AreSameForms slots (index_form (Element a (shifted_subscripts (Scalar x) ds es))) (index_form (Element a (shifted_subscripts (Number v) ds es)))
slot_evaluates a x v slots (d ∷ ds) (e ∷ es) is = λ indices. ap (λ w. elemental_at slots indices
    (index_form (Element a (shifted_subscripts (Number w) (d ∷ ds) (e ∷ es))))) is
slot_evaluates a x v slots [] es is = λ indices. refl
slot_evaluates a x v slots (d ∷ ds) [] is = λ indices. refl

is_two : (how : Transformation) (rank : ℕ) → IsRankOf how rank → how ≡ Transposition → rank ≡ 2
is_two (CircularShift by) rank ok is = absurd cc
is_two Transposition rank ok is = ok
is_two PrefixSum rank ok is = absurd cc

-- ---- shapes that differ

both_and : (p q : Bool) → (p && (q && true)) ≡ (q && (p && true))
both_and true true = refl
both_and true false = refl
both_and false true = refl
both_and false false = refl

transposed_misfit : (b : ℕ) (ds es : List Dim) (slots : List ℤ) → length ds ≡ 2 → length es ≡ 2
    → selections_in slots (subs_of b (whole ds)) ≡ map Along (map bounds_of ds)
    → bytes_eq (extents (map Along (map bounds_of es))) (extents (selections_in slots (reverse (subs_of b (whole ds)))))
    ≡ bytes_eq (reverse (map extent es)) (map extent ds)
transposed_misfit b (d ∷ d' ∷ []) (e ∷ e' ∷ []) slots h g over =
    ap (λ ns. bytes_eq (extent e ∷ extent e' ∷ []) (reverse ns)) (ap extents over) ∙ both_and (extent e == extent d') (extent e' == extent d)
transposed_misfit b (d ∷ d' ∷ []) [] slots h g over = absurd (omega (arith, g))
transposed_misfit b (d ∷ d' ∷ []) (e ∷ []) slots h g over = absurd (omega (arith, g))
transposed_misfit b (d ∷ d' ∷ []) (e ∷ e' ∷ c ∷ es) slots h g over = absurd (omega (arith, g))
transposed_misfit b [] es slots h g over = absurd (omega (arith, h))
transposed_misfit b (d ∷ []) es slots h g over = absurd (omega (arith, h))
transposed_misfit b (d ∷ d' ∷ c ∷ ds) es slots h g over = absurd (omega (arith, h))

-- the whole source has the shape that its misfit's space has just where the statement's shapes agree
misfit_is : (how : Transformation) (b : ℕ) (x y : WholeArray) (slots : List ℤ) → length y.dims ≡ length x.dims → IsRankOf how (length x.dims)
    → selections_in slots (subs_of b (whole x.dims)) ≡ map Along (axes_of x)
    → bytes_eq (extents (map Along (axes_of y))) (extents (selections_in slots (in_order how (subs_of b (whole x.dims))))) ≡ has_shape x y how
misfit_is (CircularShift by) b x y slots same rank over =
    ap (bytes_eq (extents (map Along (axes_of y)))) (ap extents over ∙ axes-extents (axes_of x) ∙ all-places x)
    ∙ ap (λ ns. bytes_eq ns (extents_of x)) (axes-extents (axes_of y) ∙ all-places y)
misfit_is PrefixSum b x y slots same rank over =
    ap (bytes_eq (extents (map Along (axes_of y)))) (ap extents over ∙ axes-extents (axes_of x) ∙ all-places x)
    ∙ ap (λ ns. bytes_eq ns (extents_of x)) (axes-extents (axes_of y) ∙ all-places y)
misfit_is Transposition b x y slots same rank over = transposed_misfit b x.dims y.dims slots rank (same ∙ rank) over

shape_fails : (ns : List ℕ) (ds : List Selection) → bytes_eq (extents ds) ns ≡ false → space_size ns (ds ∷ []) ≡ fails Shape
shape_fails ns ds e = rw (e) refl

-- ---- what comes before it

module _ (table : ArrayTable) (row_count : ℕ) (moves : ℕ → List NewMapping) (code : List Instruction) (line n : ℕ) (s : State) (rows : Storage) (out : List ℕ)
    (arrays : HoldsArrays n table.shapes s rows) where
  whole-comes : (ds : List Dim) (pc b : ℕ) (slots : List ℤ) → All IsDim ds → HasAt code pc (subscripts_code line b (whole ds)) → HoldsScalars n s slots → n ≤ b
      → b + subscripts_slots (whole ds) ≤ length slots
      → Comes table row_count moves code line rows out [] pc (pc + length (subscripts_code line b (whole ds))) b slots
      (SubsGive (b + subscripts_slots (whole ds)) (subs_of b (whole ds)))
      (Ok (map Along (map bounds_of ds)))
  whole-comes ds pc b slots dims has holds le few =
      let to : ℕ = pc + length (subscripts_code line b (whole ds)) in
      let P = SubsGive (b + subscripts_slots (whole ds)) (subs_of b (whole ds)) in
      subst (Comes table row_count moves code line rows out [] pc to b slots P) (whole_selects s ds dims)
      (comes-as table row_count moves code line rows out (selections_trail line s (whole ds)) [] pc to b slots P (selections [] s (whole ds)) (whole_trail line s ds)
      (subscripts-come table row_count moves code line n s rows out arrays (whole ds) pc b slots (whole-scalar n ds) has holds le few))

  -- the number of places of a shift, modulo the first extent
  module _ (x : WholeArray) (b : ℕ) where
    abbrev TurnGives : Transformation → List ℤ → ℤ → Type 0
    TurnGives (CircularShift by) slots k = (later : List ℤ) → SameBelow (b + slots_of (Apply op.Modulo (turn_operands x by))) slots later
        → slot later (b + all_slots_of (turn_operands x by)) ≡ turn_of x k
    TurnGives Transposition slots k = Unit {0}
    TurnGives PrefixSum slots k = Unit {0}

    turn-comes : (how : Transformation) (pc : ℕ) (slots : List ℤ) → IsTransformation n how → HasAt code pc (turn_code line b x how) → HoldsScalars n s slots → n ≤ b
        → b + turn_slots x how ≤ length slots
        → Comes table row_count moves code line rows out (shift_trail line s how) pc (pc + length (turn_code line b x how)) b slots (TurnGives how) (shift_of s how)
    turn-comes Transposition pc slots ok has holds le few =
        let e : pc ≡ pc + 0 = omega arith in
        comes-at table row_count moves code line rows out [] pc pc (pc + 0) b slots (TurnGives Transposition) (Ok (pos 0)) e
        (comes-here table row_count moves code line rows out pc b slots (TurnGives Transposition) (pos 0) tt)
    turn-comes PrefixSum pc slots ok has holds le few =
        let e : pc ≡ pc + 0 = omega arith in
        comes-at table row_count moves code line rows out [] pc pc (pc + 0) b slots (TurnGives PrefixSum) (Ok (pos 0)) e
        (comes-here table row_count moves code line rows out pc b slots (TurnGives PrefixSum) (pos 0) tt)
    turn-comes (CircularShift by) pc slots ok has holds le few =
        by_places (value [] s by)
        (comes-as table row_count moves code line rows out (value_trail line s t) (value_trail line s by) pc to b slots (Gives (b + slots_of t) (flat_of b t))
        (value [] s t)
        (ap (λ T. value_trail line s by ++ T) (none (value [] s by)) ∙ append-nil (value_trail line s by))
        (term-comes table row_count moves code line n s rows out arrays t pc b slots (ok, (tt, tt)) has holds le few))
      where
        t : Term
        t = Apply op.Modulo (turn_operands x by)

        to : ℕ
        to = pc + length (code_of line b t)

        none : (q : Result ℤ Cause) → after_value q (λ v. []) ≡ []
        none (Ok v) = refl
        none (Err c) = refl

        divides : is_zero (pos (first_extent x)) ≡ false
        divides = by_test (is_zero (pos (first_extent x))) refl
          where
            by_test : (t : Bool) → is_zero (pos (first_extent x)) ≡ t → t ≡ false
            by_test false e = refl
            by_test true e = let zero : first_extent x ≡ 0 = ap unsigned_abs ((Decides-int_eq (pos (first_extent x)) (pos 0)).0 e) in absurd (omega (arith, zero))

        by_places : (q : Result ℤ Cause)
            → Comes table row_count moves code line rows out (value_trail line s by) pc to b slots (Gives (b + slots_of t) (flat_of b t))
            (with_more q (Ok (pos (first_extent x) ∷ [])) >>= operated op.Modulo)
            → Comes table row_count moves code line rows out (value_trail line s by) pc to b slots (TurnGives (CircularShift by)) q
        by_places (Ok k) h =
            let h1 = subst (λ z. Comes table row_count moves code line rows out (value_trail line s by) pc to b slots (Gives (b + slots_of t) (flat_of b t))
            (unless_zero (if z then None else Some (turn_of x k)))) divides h in
            (h1.0, h1.1, h1.2, λ later same. let e : Ok (slot later (b + all_slots_of (turn_operands x by))) ≡ Ok (turn_of x k) = h1.3 later same in cc)
        by_places (Err c) h = h

-- ---- the statement

module _ (table : ArrayTable) (row_count : ℕ) (moves : ℕ → List NewMapping) (code : List Instruction) (n many leave again line : ℕ) (lie : HasCopies table n)
    (x y : WholeArray) (how : Transformation)
    (lx : x.array < n) (ly : y.array < n) (ranked : AreTransformed table.shapes x y how) (s : State) (rows : Storage) where
  -- what comes after the number of places and the subscripts of the target
  module _ (b b1 b2 pc : ℕ) (slots : List ℤ) (holds : Holds table row_count moves code n many None s slots rows) (k : ℤ)
      (over : SubsGive b2 (subs_of b1 (whole x.dims)) slots (map Along (axes_of x)))
      (turns : AreSameForms slots (index_form (source_element x y how (turn_in_slot b x how))) (index_form (source_element x y how (Number (turn_of x k))))) where
    abbrev Done : Bool → Type 0
    Done fits = Goes table row_count moves code n many None leave again
        (if fits then transformed_trail x y how k line s else []) (pc + length (fitted_code fits n line b b1 b2 x y how)) b2 slots (stands table row_count moves code pc slots rows s.printed)
        (one_step line s (if fits then Ok (store_all s x.array (transformed x y how k s)) else fails Shape))

    -- a shift or a transpose
    abbrev Moved : Transformation → Type 0
    Moved h = HasAt code pc (ParForall (transform_assignment line b b1 x y h) ∷ [])
        → Goes table row_count moves code n many None leave again (reached line s (ElementsAssigned false None (axes_of x) x.array (indices_from 0 x.dims)
        (source_element x y h (Number (turn_of x k))))) (pc + 1) b2 slots (stands table row_count moves code pc slots rows s.printed)
        (normal (store_all s x.array (transformed x y h k s)))

    assigned : how ≢ PrefixSum → has_shape x y how ≡ true → Moved how
    assigned moves-it fits has =
        passes-go table row_count moves code n many None leave again (ParForall p) (forall_tuples table.shapes p)
        (forall_spot table.shapes p) refl line x.array b2 pc lx has slots rows s holds
        (product (extents_of x)) sized (indices_at (axes_of x)) at_a_tuple (λ u lt. does u) entry those (store_all s x.array (transformed x y how k s))
        (transforms-as-elements s x y how k line (holds.arrays.shape x.array lx ∙ sym ranked.0.0)
        (holds.arrays.shape y.array ly ∙ sym ranked.1.0) ranked.0.1 ranked.1.1 moves-it fits ranked.2 (is_two how (length x.dims) ranked.3))
      where
        p : Assignment
        p = transform_assignment line b b1 x y how

        right : Term
        right = source_element x y how (Number (turn_of x k))

        here : selections_in slots p.over ≡ map Along (axes_of x)
        here = over slots (same-refl b2 slots)

        oks : AreSubscripts n (indices_from 0 x.dims)
        oks = target_indexed n 0 x.dims

        ok : IsIndexed n right
        ok = (ly, source_indexed n how (turn_of x k) x.dims y.dims)

        within : product (extents_of x) ≤ MAX_ELEMENTS
        within = let size = elements_are x.dims in let few = ranked.0.1.size in omega (arith, size, few)

        sized : (forall_tuples table.shapes p).count slots ≡ product (extents_of x)
        sized = ap space_count (extents-are p.over (axes_of x) slots here ∙ all-places x)
            ∙ ap (λ t. if t then product (extents_of x) else 0) (le-leb (product (extents_of x)) MAX_ELEMENTS within)

        entry : Trail
        entry = reached line s (ElementsAssigned false None (axes_of x) x.array (indices_from 0 x.dims) right)

        those : IsTrail moves (note (ParForall p) slots) entry
        those = (
          record {
            scalars = λ j lj. holds.scalars j (omega (arith, lj, holds.places));
            event = (
              refl,
              (
                None,
                axes_of x,
                indices_from 0 x.dims,
                right,
                refl,
                here,
                refl,
                turns,
                (λ w e. cc),
                subst (λ m. AreSubscripts m (indices_from 0 x.dims)) (sym holds.places) oks,
                subst (λ m. IsIndexed m right) (sym holds.places) ok,
                (refl, tt),
              ),
            );
          },
          tt,
        )

        at_a_tuple : ℕ → Result (Option Store) Cause
        at_a_tuple u = if_true true (values (indices_at (axes_of x) u) s (indices_from 0 x.dims) >>=
            (λ is. store_at s x.array is (value (indices_at (axes_of x) u) s right)))

        does-at : (y : List ℤ) → Does line x.array (spot_of table.shapes x.array (subscripts_at (selections_at slots y p.left) y))
            (outcome_if true (at_line line (assigned_value table.shapes x.array (selections_at slots y p.left) (elemental_at slots y p.right) y
            (values_of rows (reads_at table.shapes y (elemental_at slots y p.right))) 0)))
            (at_tuple y (if_true true (values y s (indices_from 0 x.dims) >>= (λ is. store_at s x.array is (value y s right)))))
        does-at y = indexed-does n table.shapes s slots rows holds.scalars holds.arrays line x.array (indices_from 0 x.dims) right lx oks ok None 0 true
            (λ values. refl) y (elemental_at slots y p.right) (turns y)

        does : (u : ℕ) → Does line x.array (forall_spot table.shapes p slots u) (machine.outcome_of (forall_tuples table.shapes p) slots (read rows) u)
            (at_tuple (indices_at (axes_of x) u) (at_a_tuple u))
        does u =
            subst (λ y. Does line x.array (spot_of table.shapes x.array (subscripts_at (selections_at slots y p.left) y))
            (outcome_if true (at_line line (assigned_value table.shapes x.array (selections_at slots y p.left) (elemental_at slots y p.right) y
            (values_of rows (reads_at table.shapes y (elemental_at slots y p.right))) 0)))
            (at_tuple (indices_at (axes_of x) u) (at_a_tuple u)))
            (sym (indices-are p.over (axes_of x) slots here u)) (does-at (indices_at (axes_of x) u))

    refused : has_shape x y how ≡ false → HasAt code pc (fitted_code false n line b b1 b2 x y how) → n ≤ b2 → b2 + subscripts_slots (whole y.dims) ≤ many → Done false
    refused fits has le few =
        goes-on table row_count moves code n many None leave again [] [] (pc + length (c ++ Limits m ∷ [])) b2 b2 slots slots1
        (stands table row_count moves code pc slots rows s.printed)
        (stands table row_count moves code pc1 slots1 rows s.printed) (one_step line s (fails Shape)) (omega arith) came.1 (λ j from lt. came.2.1 j lt)
        (λ i. (
          _,
          (
            1,
            one table row_count moves code pc1 slots1 rows s.printed (Limits m) at_limits i
                ∙ ap (λ q. record (stands table row_count moves code pc1 slots1 rows s.printed i) {
                  control = go_on_if {A = ℕ} (at_line line q)
                      (record { at = pc1; slots = slots1; status = Running });
                }) limits,
            still table row_count moves code pc1 slots1 rows s.printed (Limits m) at_limits refl i,
          ),
          refl,
          refl,
          refl,
        ))
      where
        c : List Instruction
        c = subscripts_code line b2 (whole y.dims)

        m : Assignment
        m = misfit line b1 b2 x y how

        pc1 : ℕ
        pc1 = pc + length c

        b3 : ℕ
        b3 = b2 + subscripts_slots (whole y.dims)

        came : Comes table row_count moves code line rows s.printed [] pc pc1 b2 slots (SubsGive b3 m.left) (Ok (map Along (axes_of y)))
        came = whole-comes table row_count moves code line n s rows s.printed holds.arrays y.dims pc b2 slots ranked.1.1.each
            (has-front code pc c (Limits m ∷ []) has) holds.scalars le
            (omega (arith, few, holds.size))

        slots1 : List ℤ
        slots1 = came.0

        at_limits : slice_get code pc1 ≡ Some (Limits m)
        at_limits = (has-back code pc c (Limits m ∷ []) has).0

        space : List ℕ
        space = extents (selections_in slots1 m.over)

        limits : assignment_size m slots1 ≡ fails Shape
        limits =
            let left : selections_in slots1 m.left ≡ map Along (axes_of y) = came.3 slots1 (same-refl b3 slots1) in
            ap (λ ds. space_size space (ds ∷ [])) left
            ∙ shape_fails space (map Along (axes_of y)) (misfit_is how b1 x y slots1 ranked.2 ranked.3 (over slots1 came.2) ∙ fits)

    -- a prefix sum, whose source is selected first
    summed : how ≡ PrefixSum → has_shape x y how ≡ true → HasAt code pc (prefix_code n line b1 b2 x y) → n ≤ b2 → b2 + subscripts_slots (whole y.dims) ≤ many
        → Goes table row_count moves code n many None leave again (transformed_trail x y PrefixSum k line s) (pc + length (prefix_code n line b1 b2 x y)) b2 slots
        (stands table row_count moves code pc slots rows s.printed) (normal (store_all s x.array (transformed x y PrefixSum k s)))
    summed is fits has le few =
        goes-at table row_count moves code n many None leave again (transformed_trail x y PrefixSum k line s) (pc1 + 4) (pc + length (c ++ rest)) b2 slots
        (stands table row_count moves code pc slots rows s.printed) (normal next) (omega (arith, length-append c rest))
        (goes-value table row_count moves code n many None leave again [] (λ ds. transformed_trail x y PrefixSum k line s) line pc pc1 (pc1 + 4) b2 b3 slots rows s
        (SubsGive b3 (subs_of b2 (whole y.dims))) (Ok (map Along (axes_of y))) (λ ds. normal next) (omega arith) le holds
        (whole-comes table row_count moves code line n s rows s.printed holds.arrays y.dims pc b2 slots ranked.1.1.each (has-front code pc c rest has) holds.scalars le
        (omega (arith, few, holds.size)))
        (λ slots1 ds e same gives holds1.
        prefix-goes table row_count moves code n many leave again line lie x y lx ly (subst (AreTransformed table.shapes x y) is ranked)
        (subst (λ h. has_shape x y h ≡ true) is fits) s b3 b1 b2 pc1 slots1 rows holds1 (over slots1 same)
        (gives slots1 (same-refl b3 slots1) ∙ sym (listed ds e)) (has-back code pc c rest has)))
      where
        next : State
        next = store_all s x.array (transformed x y PrefixSum k s)

        c : List Instruction
        c = subscripts_code line b2 (whole y.dims)

        rest : List Instruction
        rest = MakeCopy n (whole_evaluation line b2 y) ∷ ParCopy n (whole_evaluation line b2 y) ∷ ScanCopy n Sum ∷ ParNest (copy_assignment n line b1 x) ∷ []

        pc1 : ℕ
        pc1 = pc + length c

        b3 : ℕ
        b3 = b2 + subscripts_slots (whole y.dims)

        selected : List Selection → Result (List Selection) Cause
        selected ds = Ok ds

        listed : (ds : List Selection) → selected (map Along (axes_of y)) ≡ selected ds → map Along (axes_of y) ≡ ds
        listed ds e = cc

    agreed-goes : (how' : Transformation) → how ≡ how' → has_shape x y how ≡ true → HasAt code pc (agreed_code n line b b1 b2 x y how') → n ≤ b2
        → b2 + subscripts_slots (whole y.dims) ≤ many
        → Goes table row_count moves code n many None leave again (transformed_trail x y how' k line s) (pc + length (agreed_code n line b b1 b2 x y how')) b2 slots
        (stands table row_count moves code pc slots rows s.printed) (normal (store_all s x.array (transformed x y how' k s)))
    agreed-goes (CircularShift by) is fits has le few = subst Moved is (assigned (λ e. let same : CircularShift by ≡ PrefixSum = sym is ∙ e in cc) fits) has
    agreed-goes Transposition is fits has le few = subst Moved is (assigned (λ e. let same : Transposition ≡ PrefixSum = sym is ∙ e in cc) fits) has
    agreed-goes PrefixSum is fits has le few = summed is fits has le few

    fitted-goes : (fits : Bool) → has_shape x y how ≡ fits → HasAt code pc (fitted_code fits n line b b1 b2 x y how) → n ≤ b2
        → b2 + subscripts_slots (whole y.dims) ≤ many → Done fits
    fitted-goes true fits has le few = agreed-goes how refl fits has le few
    fitted-goes false fits has le few = refused fits has le few

  pub transform-goes : (b pc : ℕ) (slots : List ℤ) → IsTransformation n how → HasAt code pc (transform_code n line b x y how) → n ≤ b
      → b + (turn_slots x how + (subscripts_slots (whole x.dims) + subscripts_slots (whole y.dims))) ≤ many
      → Holds table row_count moves code n many None s slots rows
      → Goes table row_count moves code n many None leave again (transform_trail x y how line s) (pc + length (transform_code n line b x y how)) b slots
      (stands table row_count moves code pc slots rows s.printed) (one_step line s (transform x y how s))
  transform-goes b pc slots ok has le few holds =
      goes-at table row_count moves code n many None leave again (transform_trail x y how line s) to (pc + length (c1 ++ (c2 ++ c3))) b slots
      (stands table row_count moves code pc slots rows s.printed)
      (one_step line s (transform x y how s)) long
      (subst (Goes table row_count moves code n many None leave again (transform_trail x y how line s) to b slots
      (stands table row_count moves code pc slots rows s.printed))
      (sym (ends-bind line s (shift_of s how) (λ k. if has_shape x y how then Ok (store_all s x.array (transformed x y how k s)) else fails Shape)))
      (goes-value table row_count moves code n many None leave again (shift_trail line s how) passes line pc pc1 to b b1 slots rows s
      (TurnGives table row_count moves code line n s rows s.printed holds.arrays x b how) (shift_of s how)
      does (omega arith) le holds
      (turn-comes table row_count moves code line n s rows s.printed holds.arrays x b how pc slots ok (has-front code pc c1 (c2 ++ c3) has) holds.scalars le
      (omega (arith, few, holds.size)))
      (λ slots1 k e1 same1 gives1 holds1.
      goes-value table row_count moves code n many None leave again [] (λ ds. passes k) line pc1 pc2 to b1 b2 slots1 rows s
      (SubsGive b2 (subs_of b1 (whole x.dims))) (Ok (map Along (axes_of x)))
      (λ ds. does k) (omega arith) (omega (arith, le)) holds1
      (whole-comes table row_count moves code line n s rows s.printed holds1.arrays x.dims pc1 b1 slots1 ranked.0.1.each
      (has-front code pc1 c2 c3 h1) holds1.scalars (omega (arith, le))
      (omega (arith, few, holds1.size)))
      (λ slots2 ds e2 same2 gives2 holds2.
      fitted-goes b b1 b2 pc2 slots2 holds2 k (subst (SubsGive b2 (subs_of b1 (whole x.dims)) slots2) (sym (listed ds e2)) gives2)
      (turns how slots1 slots2 k gives1 same2)
      (has_shape x y how) refl (has-back code pc1 c2 c3 h1) (omega (arith, le)) (omega (arith, few))))))
    where
      b1 : ℕ
      b1 = b + turn_slots x how

      b2 : ℕ
      b2 = b1 + subscripts_slots (whole x.dims)

      c1 : List Instruction
      c1 = turn_code line b x how

      c2 : List Instruction
      c2 = subscripts_code line b1 (whole x.dims)

      c3 : List Instruction
      c3 = fitted_code (has_shape x y how) n line b b1 b2 x y how

      pc1 : ℕ
      pc1 = pc + length c1

      pc2 : ℕ
      pc2 = pc1 + length c2

      to : ℕ
      to = pc2 + length c3

      long : to ≡ pc + length (c1 ++ (c2 ++ c3))
      long = omega (arith, length-append c1 (c2 ++ c3), length-append c2 c3)

      h1 : HasAt code pc1 (c2 ++ c3)
      h1 = has-back code pc c1 (c2 ++ c3) has

      passes : ℤ → Trail
      passes k = if has_shape x y how then transformed_trail x y how k line s else []

      does : ℤ → Run
      does k = one_step line s (if has_shape x y how then Ok (store_all s x.array (transformed x y how k s)) else fails Shape)

      selected : List Selection → Result (List Selection) Cause
      selected ds = Ok ds

      listed : (ds : List Selection) → selected (map Along (axes_of x)) ≡ selected ds → map Along (axes_of x) ≡ ds
      listed ds e = cc

      turns : (how : Transformation) (slots1 slots2 : List ℤ) (k : ℤ)
          → TurnGives table row_count moves code line n s rows s.printed holds.arrays x b how slots1 k → SameBelow (b + turn_slots x how) slots1 slots2
          → AreSameForms slots2 (index_form (source_element x y how (turn_in_slot b x how))) (index_form (source_element x y how (Number (turn_of x k))))
      turns (CircularShift by) slots1 slots2 k gives same = slot_evaluates y.array (b + all_slots_of (turn_operands x by)) (turn_of x k) slots2 x.dims y.dims
          (gives slots2 same)
      turns Transposition slots1 slots2 k gives same = λ indices. refl
      turns PrefixSum slots1 slots2 k gives same = λ indices. refl
