-- The code of a prefix sum does what it means: its source is copied, the copy is scanned, and the target takes it.
use Rattle.node_code.specs.Instructions.{NewMapping, Instruction, MakeCopy, ParCopy, ScanCopy, ParNest}
use Rattle.node_code.specs.Flat.{Axis}
use Rattle.node_code.specs.NestStatements.{NestStatement}
use Rattle.code_meaning.specs.Instructions.{ArrayTable, lies_alone}
use Rattle.std.proofs.Common.{◌≡◌, ℕ, suc, zero, ◌+◌, ◌/◌, ◌<◌, ◌≤◌, List, [], ◌∷◌, ◌++◌, map, length, take, fold, replicate, ℤ, pos, ◌+ℤ◌, true, if◌then◌else◌, Option, Some, None, Result, Ok, Err, refl, sym, ap, ◌∙◌, subst, arith, slice_get, slice_set, slice_index_or, append-nil, inr, get_or-set_same, length-set, ⊎_elim, w64}
use Rattle.std.specs.List.{range_with_len}
use Rattle.std.proofs.lemmas.Bool.{le-leb, cases_lt}
use Rattle.std.proofs.lemmas.List.{length-replicate, get_or_past}
use Rattle.std.proofs.Math.Nat.{mul-one}
use Rattle.std.proofs.lemmas.Int.{SFits-int_wrap}
use Rattle.std.proofs.lemmas.List.Sums.{fold-append}
use Rattle.std.proofs.lemmas.List.FromFn.{length-map-range_with_len, get_or-map-range_with_len, take-map-range_with_len, map-range_with_len_more}
use Rattle.std.proofs.lemmas.Slice.Eq.{bytes_eq-Decides}
use Rattle.hpf_base.specs.declared.limits.TheConstants.{MAX_ELEMENTS}
use Rattle.hpf_base.specs.ElementOrder.{product}
use Rattle.op_tables.specs.declared.join.Join.TheVariants.{Sum}
use Rattle.op_tables.specs.Joins.{IsValue, join, unit}
use Rattle.op_tables.proofs.Joins.{joins}
use Rattle.expression_rules.specs.declared.dims.Dim.{Dim}
use Rattle.expression_rules.specs.Dims.{extent}
use Rattle.storage.specs.Storage.{Storage, row_of, read}
use Rattle.storage.specs.Effect.{Effect, scatter}
use Rattle.array_meaning.specs.declared.sections.Selection.TheVariants.{Along}
use Rattle.array_meaning.specs.declared.sections.Store.{Store}
use Rattle.array_meaning.specs.Statements.{WholeArray, PrefixSum}
use Rattle.array_meaning.specs.Faults.{Cause, Fault, ◌>>=◌, at_tuple}
use Rattle.array_meaning.specs.State.{State, array, element, element_place, if_in_bounds, store_all}
use Rattle.array_meaning.specs.Runs.{normal}
use Rattle.array_meaning.specs.Sections.{extents, positions, subscripts_at}
use Rattle.array_meaning.specs.Elementals.{Elemental, Selected, each, value_at}
use Rattle.array_meaning.specs.Forall.{indices_at}
use Rattle.array_meaning.specs.Resolution.{whole}
use Rattle.array_meaning.specs.Transformations.{extents_of, has_shape, transformed}
use Rattle.machine_steps.specs.Layout.{Layout}
use Rattle.machine_steps.specs.Space.{space_count}
use Rattle.machine_steps.specs.Instr.{Outcome}
use Rattle.machine_steps.specs.Machine as machine
use Rattle.machine_steps.specs.Machine.{effect_of, effect_by, lies_so, scan, scanned_rows}
use Rattle.code_meaning.specs.Forms.{selections_at, selections_in}
use Rattle.node_code.specs.Parallel.{Evaluation}
use Rattle.code_meaning.specs.NestStatements.{nest_place, nest_spot, nest_tuples}
use Rattle.code_meaning.specs.Parallel.{at_line, copy_spot, evaluation_extents, evaluation_tuples, fold_of, indices_in, outcome_of, shape_of}
use Rattle.program_code.specs.ExpressionCode.{subs_of, index_subs}
use Rattle.program_code.specs.StatementCode.{whole_evaluation, copy_assignment}
use Rattle.statement_trail.specs.Trail.{Trail, ValuesCopied, CopyAssigned, reached, transformed_trail}
use Rattle.statement_trail.specs.TransformedElements.{axes_of, indices_from}
use Rattle.lowered_expressions.specs.Passed.{note, IsTrail}
use Rattle.lowered_expressions.proofs.Reach.{Idle, Place, still, HasAt, Reaches, reaches-on, reaches-last, stands, one}
use Rattle.lowered_expressions.proofs.Goes.{Holds, kept-refl, Goes, goes-on}
use Rattle.lowered_expressions.proofs.Keeping.{IsOutcome, Keeps, keeps}
use Rattle.lowered_expressions.proofs.Scatter.{Does, value-here}
use Rattle.lowered_expressions.proofs.Indexed.{axes-extents, subs-are}
use Rattle.lowered_nests.proofs.NestRuns.{HasCopies}
use Rattle.transformed_elements.proofs.Places.{all-places, indices-are, place-is, subscripts_of}
use Rattle.transformed_elements.proofs.Elements.{each-is, target-subscripts}
use Rattle.lowering.specs.Ranks.{AreTransformed}
use Rattle.lowering.proofs.Evaluating.{own-outcome, result-outcome}
use Rattle.lowering.proofs.IndexedStores.{indices-are as indices-here}
use Rattle.lowering.proofs.Masks.{holds-copy, value_effect, Filled, filled}
use Rattle.lowering.proofs.Pars.{counted, par-steps}
use Rattle.lowering.proofs.Storing.{passes-go}
use Rattle.lowering.proofs.Wholes.{elements_are, target_indexed}

-- ---- sums of the first elements

abbrev sums : List ℤ → ℤ
sums vs = fold (join Sum) (unit Sum) vs

sums-in : (vs : List ℤ) (a : ℤ) → IsValue Sum a → IsValue Sum (fold (join Sum) a vs)
sums-in [] a h = h
sums-in (v ∷ vs) a h = sums-in vs (join Sum a v) (wraps a v)
  where
    wraps : (a b : ℤ) → IsValue Sum (join Sum a b)
    wraps a b = SFits-int_wrap w64 (a +ℤ b)

take-more : (vs : List ℤ) (n : ℕ) → n < length vs → take (suc n) vs ≡ take n vs ++ slice_index_or vs n (pos 0) ∷ []
take-more [] n lt = absurd (omega arith)
take-more (v ∷ vs) zero lt = refl
take-more (v ∷ vs) (suc n) lt = ap (λ l. v ∷ l) (take-more vs n (omega arith))

take-past : (vs : List ℤ) (n : ℕ) → length vs ≤ n → take n vs ≡ vs
take-past [] zero le = refl
take-past [] (suc n) le = refl
take-past (v ∷ vs) zero le = absurd (omega arith)
take-past (v ∷ vs) (suc n) le = ap (λ l. v ∷ l) (take-past vs n (omega arith))

-- an element that isn't there adds nothing
sums-by-places : (vs : List ℤ) (n : ℕ) → sums (map (λ at. slice_index_or vs at (pos 0)) (range_with_len 0 n)) ≡ sums (take n vs)
sums-by-places vs zero = refl
sums-by-places vs (suc n) =
    let one : n + 1 ≡ suc n = omega arith in
    ap (λ k. sums (map (λ at. slice_index_or vs at (pos 0)) (range_with_len 0 k))) (sym one)
    ∙ ap sums (map-range_with_len_more (λ at. slice_index_or vs at (pos 0)) 0 n n (omega arith))
    ∙ fold-append (join Sum) (unit Sum) (map (λ at. slice_index_or vs at (pos 0)) (range_with_len 0 n)) (slice_index_or vs n (pos 0) ∷ [])
    ∙ ap (λ a. join Sum a (slice_index_or vs n (pos 0))) (sums-by-places vs n)
    ∙ ⊎_elim
    (λ (lt : n < length vs). sym (ap sums (take-more vs n lt) ∙ fold-append (join Sum) (unit Sum) (take n vs) (slice_index_or vs n (pos 0) ∷ [])))
    (λ (le : length vs ≤ n).
    ap (join Sum (sums (take n vs))) (get_or_past vs n (pos 0) le)
    ∙ (joins Sum).neutral (sums (take n vs)) (sums-in (take n vs) (unit Sum) (joins Sum).unit_in)
    ∙ ap sums (take-past vs n le ∙ sym (take-past vs (suc n) (omega (arith, le)))))
    (cases_lt n (length vs))

found : (layouts : List Layout) (n : ℕ) (layout : Layout) → n < length layouts → slice_get (slice_set layouts n layout) n ≡ Some layout
found [] n layout lt = absurd (omega arith)
found (l ∷ layouts) zero layout lt = refl
found (l ∷ layouts) (suc n) layout lt = found layouts n layout (omega arith)

-- ---- the code

module _ (table : ArrayTable) (row_count : ℕ) (moves : ℕ → List NewMapping) (code : List Instruction) (n many leave again line : ℕ) (lie : HasCopies table n)
    (x y : WholeArray) (lx : x.array < n) (ly : y.array < n) (ranked : AreTransformed table.shapes x y PrefixSum) (fits : has_shape x y PrefixSum ≡ true) (s : State)
    (b b1 b2 pc : ℕ) (slots : List ℤ) (rows : Storage) (holds : Holds table row_count moves code n many None s slots rows)
    (target : selections_in slots (subs_of b1 (whole x.dims)) ≡ map Along (axes_of x))
    (source : selections_in slots (subs_of b2 (whole y.dims)) ≡ map Along (axes_of y))
    (has : HasAt code pc (MakeCopy n (whole_evaluation line b2 y) ∷ ParCopy n (whole_evaluation line b2 y) ∷ ScanCopy n Sum ∷ ParNest (copy_assignment n line b1 x) ∷ [])) where
  abbrev p : Evaluation
  p = whole_evaluation line b2 y

  abbrev q : NestStatement
  q = copy_assignment n line b1 x

  abbrev count : ℕ
  count = product (extents_of x)

  abbrev given : List ℤ
  given = (array s y.array).elements

  abbrev given_at : ℕ → ℤ
  given_at t = slice_index_or given t (pos 0)

  -- the values that are copied
  abbrev copied_values : List ℤ
  copied_values = map given_at (range_with_len 0 count)

  same_extents : extents_of y ≡ extents_of x
  same_extents = (bytes_eq-Decides (extents_of y) (extents_of x)).0 fits

  within : count ≤ MAX_ELEMENTS
  within = let size = elements_are x.dims in let few = ranked.0.1.size in omega (arith, size, few)

  spaced : space_count (extents_of x) ≡ count
  spaced = ap (λ t. if t then count else 0) (le-leb count MAX_ELEMENTS within)

  -- ---- the copy

  abbrev ns : List ℕ
  ns = extents_of y

  evaluated : evaluation_extents p slots ≡ ns
  evaluated = ap extents source ∙ axes-extents (axes_of y) ∙ all-places y

  as-many : product ns ≡ count
  as-many = ap product same_extents

  ns-spaced : space_count ns ≡ count
  ns-spaced = ap space_count same_extents ∙ spaced

  abbrev right : Elemental
  right = Selected y.array (map Along (axes_of y))

  element-known : (t : ℕ) → t < count → value_at s (positions ns t) right ≡ Ok (given_at t)
  element-known t lt =
      let below : t < product (map extent y.dims) = omega (arith, lt, as-many) in
      let at : subscripts_at (map Along (axes_of y)) (positions ns t) ≡ subscripts_of y.dims t =
      ap (λ ms. subscripts_at (map Along (axes_of y)) (positions ms t)) (sym (all-places y)) ∙ indices-are y.dims t ranked.1.1.each below in
      let dims : (array s y.array).dims ≡ y.dims = holds.arrays.shape y.array ly ∙ sym ranked.1.0 in
      ap (element s y.array) at
      ∙ ap (λ ds. if_in_bounds (element_place ds (subscripts_of y.dims t)) >>= (λ k. Ok (slice_index_or given k (pos 0)))) dims
      ∙ ap (λ o. if_in_bounds o >>= (λ k. Ok (slice_index_or given k (pos 0)))) (place-is y.dims t below)

  all-known : each (positions ns) (λ t. value_at s (positions ns t) right) count ≡ Ok copied_values
  all-known = each-is (positions ns) (λ t. value_at s (positions ns t) right) given_at count element-known

  abbrev zeros : List ℤ
  zeros = replicate (space_count (evaluation_extents p slots)) (pos 0)

  abbrev rows1 : Storage
  rows1 = slice_set rows n zeros

  holds1 : Holds table row_count moves code n many None s slots rows1
  holds1 = holds-copy table row_count moves code n many s slots rows zeros holds

  empty : length (row_of rows1 n) ≡ count
  empty = ap length (get_or-set_same rows n zeros [] holds.wide) ∙ length-replicate (space_count (evaluation_extents p slots)) (pos 0) ∙ ap space_count evaluated ∙ ns-spaced

  -- how rows lie after the copy is made
  abbrev made : Idle row_count → Idle row_count
  made i = record {
    layouts = slice_set i.layouts n (table.copies i.layouts None (evaluation_extents p slots));
    parts = i.parts;
    joined = i.joined;
    laid = length-set i.layouts n (table.copies i.layouts None (evaluation_extents p slots)) ∙ i.laid;
  }

  abbrev m0 : Place row_count
  m0 = stands table row_count moves code pc slots rows s.printed

  abbrev m1 : Place row_count
  m1 i = stands table row_count moves code (pc + 1) slots rows1 s.printed (made i)

  makes : Reaches table row_count moves code [] m0 m1
  makes i = (
    1,
    i,
    one table row_count moves code pc slots rows s.printed (MakeCopy n p) has.0 i
        ∙ ap (λ k. stands table row_count moves code (pc + 1) slots (slice_set rows n (replicate k (pos 0))) s.printed (made i)) (lie.sized i.layouts None (evaluation_extents p slots)),
    still table row_count moves code pc slots rows s.printed (MakeCopy n p) has.0 refl i,
  )

  -- ---- its values

  abbrev outcome : ℕ → Outcome Fault
  outcome = machine.outcome_of (evaluation_tuples table.shapes p) slots (read rows1)

  abbrev effect : ℕ → Effect Fault
  effect = effect_of (evaluation_tuples table.shapes p) (copy_spot n) slots (read rows1)

  outcome-is : (u : ℕ) → outcome u ≡ outcome_of (at_line line (at_tuple (positions ns u) (value_at s (positions ns u) right)))
  outcome-is u =
      let h = own-outcome n table.shapes s rows1 holds1.arrays line p.form None slots right (ap (Selected y.array) source) ly u in
      let e : extents (map Along (axes_of y)) ≡ ns = axes-extents (axes_of y) ∙ all-places y in
      h ∙ ap (λ ms. outcome_of (at_line line (at_tuple (positions ms u) (value_at s (positions ms u) right)))) e

  by_result : (u : ℕ) (r : Result ℤ Cause) → effect_by (copy_spot n slots u) (outcome_of (at_line line r)) ≡ value_effect table row_count moves code n many line u r
  by_result u (Ok v) = refl
  by_result u (Err c) = refl

  effect-is : (u : ℕ) → effect u ≡ value_effect table row_count moves code n many line u (at_tuple (positions ns u) (value_at s (positions ns u) right))
  effect-is u = ap (effect_by (copy_spot n slots u)) (outcome-is u) ∙ by_result u (at_tuple (positions ns u) (value_at s (positions ns u) right))

  abbrev rows2 : Storage
  rows2 = scatter effect count rows1

  filled-so : Filled table row_count moves code n many line count s slots rows1 holds1 empty effect (Ok copied_values) count
  filled-so = subst (λ r. Filled table row_count moves code n many line count s slots rows1 holds1 empty effect r count) all-known
      (filled table row_count moves code n many line count s slots rows1 holds1 empty effect (positions ns) (λ t. value_at s (positions ns t) right) count (omega arith) (λ u lt. effect-is u))

  keeps-so : Keeps line outcome (Ok copied_values) count
  keeps-so = subst (λ r. Keeps line outcome r count) all-known
      (keeps line outcome (positions ns) (λ t. value_at s (positions ns t) right) count
      (λ u lt. subst (λ z. IsOutcome line z (at_tuple (positions ns u) (value_at s (positions ns u) right))) (sym (outcome-is u))
      (result-outcome line (at_tuple (positions ns u) (value_at s (positions ns u) right)))))

  holds2 : Holds table row_count moves code n many None s slots rows2
  holds2 = filled-so.4

  copy-filled : row_of rows2 n ≡ copied_values
  copy-filled = filled-so.1 ∙ no_rest copied_values filled-so.0 filled-so.3
    where
      no_rest : (vs rest : List ℤ) → count + length rest ≡ count → vs ++ rest ≡ vs
      no_rest vs [] e = append-nil vs
      no_rest vs (z ∷ rest) e = absurd (omega (arith, e))

  abbrev m2 : Place row_count
  m2 i = stands table row_count moves code (pc + 2) slots rows2 s.printed (counted (made i))

  abbrev first : Trail
  first = reached line s (ValuesCopied None ns right)

  first-those : IsTrail moves (note (ParCopy n p) slots) first
  first-those = (
    record {
      scalars = λ k lk. holds.scalars k (omega (arith, lk, holds.places));
      event = (refl, (None, sym (λ i. ValuesCopied None (evaluated i) (Selected y.array (source i))), sym holds.places, (refl, tt), tt));
    },
    tt,
  )

  copies : Reaches table row_count moves code first m1 m2
  copies i =
      let e : pc + 1 + 1 ≡ pc + 2 = omega arith in
      let h = par-steps table row_count moves code n (ParCopy n p) (evaluation_tuples table.shapes p) (copy_spot n) (pc + 1) slots rows1 s.printed refl (has.1.0, tt) count
      (ap space_count evaluated ∙ ns-spaced) first first-those keeps-so (made i) in
      (1, i, h.0 ∙ ap (λ at. stands table row_count moves code at slots rows2 s.printed (counted (made i))) e, h.1)

  -- ---- the scan

  abbrev scanned : List ℤ
  scanned = scan (fold_of Sum) copied_values

  abbrev rows3 : Storage
  rows3 = slice_set rows2 n scanned

  holds3 : Holds table row_count moves code n many None s slots rows3
  holds3 = holds-copy table row_count moves code n many s slots rows2 scanned holds2

  lies-so : (i : Idle row_count) → lies_so (lies_alone table) (slice_get (made i).layouts n) ≡ true
  lies-so i =
      let wide : n < length i.layouts = omega (arith, holds.wide, holds.more_rows, i.laid) in
      ap (lies_so (lies_alone table)) (found i.layouts n (table.copies i.layouts None (evaluation_extents p slots)) wide)
      ∙ ap (λ ms. lies_alone table (table.copies i.layouts None ms)) (evaluated ∙ same_extents ∙ one-extent x.dims ranked.3)
      ∙ lie.alone i.layouts count within
    where
      one-extent : (ds : List Dim) → length ds ≡ 1 → map extent ds ≡ product (map extent ds) ∷ []
      one-extent [] e = absurd (omega (arith, e))
      one-extent (d ∷ []) e = ap (λ k. k ∷ []) (sym (mul-one (extent d)))
      one-extent (d ∷ d' ∷ ds) e = absurd (omega (arith, e))

  abbrev m3 : Place row_count
  m3 = stands table row_count moves code (pc + 3) slots rows3 s.printed

  scans : Reaches table row_count moves code [] m2 m3
  scans i =
      let e : pc + 1 + 1 ≡ pc + 2 = omega arith in
      let here : slice_get code (pc + 2) ≡ Some (ScanCopy n Sum) = subst (λ at. slice_get code at ≡ Some (ScanCopy n Sum)) e has.1.1.0 in
      let on : pc + 2 + 1 ≡ pc + 3 = omega arith in (
        1,
        counted (made i),
        one table row_count moves code (pc + 2) slots rows2 s.printed (ScanCopy n Sum) here (counted (made i))
            ∙ ap (λ t. stands table row_count moves code (pc + 2 + 1) slots (scanned_rows t (fold_of Sum) n rows2) s.printed (counted (made i))) (lies-so i)
            ∙ ap (λ vs. stands table row_count moves code (pc + 2 + 1) slots (slice_set rows2 n (scan (fold_of Sum) vs)) s.printed (counted (made i))) copy-filled
            ∙ ap (λ at. stands table row_count moves code at slots rows3 s.printed (counted (made i))) on,
        still table row_count moves code (pc + 2) slots rows2 s.printed (ScanCopy n Sum) here refl (counted (made i)),
      )

  -- ---- the target takes it

  -- what the target gets
  abbrev summed : ℕ → ℤ
  summed t = sums (take (t + 1) given)

  summed-is : (t : ℕ) → t < count → read rows3 (record { row = n; at = t }) ≡ summed t
  summed-is t lt =
      let long : length copied_values ≡ count = length-map-range_with_len given_at 0 count in
      let z : 0 + t ≡ t = omega arith in
      ap (λ vs. slice_index_or vs t (pos 0)) (get_or-set_same rows2 n scanned [] holds2.wide)
      ∙ get_or-map-range_with_len (λ at. fold (join Sum) (unit Sum) (take (at + 1) copied_values)) 0 (length copied_values) t t (pos 0) (omega (arith, long, lt)) z
      ∙ ap sums (take-map-range_with_len given_at 0 count (t + 1) (omega (arith, lt)))
      ∙ sums-by-places given (t + 1)

  abbrev store_of : ℕ → Option Store
  store_of t = Some record { place = t; value = summed t }

  left-subscripts : (t : ℕ) → t < count → subscripts_at (selections_at slots (indices_at (axes_of x) t) (index_subs (indices_from 0 x.dims))) (indices_at (axes_of x) t) ≡ subscripts_of x.dims t
  left-subscripts t lt =
      let h = subs-are n s slots holds.scalars (indices_at (axes_of x) t) (indices_at (axes_of x) t) (indices_from 0 x.dims) (target_indexed n 0 x.dims) in
      same_ok (sym h ∙ target-subscripts s x t ranked.0.1 lt)
    where
      known : List ℤ → Result (List ℤ) Cause
      known is = Ok is

      same_ok : {u v : List ℤ} → known u ≡ known v → u ≡ v
      same_ok e = cc

  place-found : (t : ℕ) → t < count → nest_place table.shapes q.over q.left slots t ≡ Some t
  place-found t lt =
      ap (λ is. element_place (shape_of table.shapes x.array) (subscripts_at (selections_at slots is (index_subs (indices_from 0 x.dims))) is)) (indices-here q.over (axes_of x) slots target t)
      ∙ ap (element_place (shape_of table.shapes x.array)) (left-subscripts t lt)
      ∙ ap (λ ds. element_place ds (subscripts_of x.dims t)) (sym ranked.0.0)
      ∙ place-is x.dims t lt

  value-found : (t : ℕ) → t < count → (v : ℤ) → slice_index_or (indices_in q.over slots t ++ v ∷ []) (length x.dims) (pos 0) ≡ v
  value-found t lt v =
      let is : indices_in q.over slots t ≡ subscripts_of x.dims t = indices-here q.over (axes_of x) slots target t ∙ indices-are x.dims t ranked.0.1.each lt in
      ap (λ js. slice_index_or (js ++ v ∷ []) (length x.dims) (pos 0)) is
      ∙ ap (λ k. slice_index_or (subscripts_of x.dims t ++ v ∷ []) k (pos 0)) (sym (counted-subscripts x.dims t))
      ∙ value-here (subscripts_of x.dims t) v []
    where
      counted-subscripts : (ds : List Dim) (t : ℕ) → length (subscripts_of ds t) ≡ length ds
      counted-subscripts [] t = refl
      counted-subscripts (d ∷ ds) t = ap suc (counted-subscripts ds (t / extent d))

  does : (t : ℕ) → t < count
      → Does line x.array (nest_spot table.shapes q slots t) (machine.outcome_of (nest_tuples table.shapes q) slots (read rows3) t) (at_tuple (indices_at (axes_of x) t) (Ok (store_of t)))
  does t lt = rw (place-found t lt, value-found t lt (read rows3 (record { row = n; at = t })), summed-is t lt) (refl, λ k. refl)

  abbrev second : Trail
  second = reached line s (CopyAssigned (axes_of x) x.array (indices_from 0 x.dims))

  second-those : IsTrail moves (note (ParNest q) slots) second
  second-those = (
    record {
      scalars = λ k lk. holds.scalars k (omega (arith, lk, holds.places));
      event = (
        refl,
        inr (
          axes_of x,
          x.array,
          indices_from 0 x.dims,
          Axis (length x.dims),
          refl,
          target,
          refl,
          refl,
          refl,
          ap (λ k. k ∷ []) (sym holds.places),
          refl,
          refl,
          refl,
          target_indexed (length s.scalars) 0 x.dims,
        ),
      );
    },
    tt,
  )

  all-stored : (each (indices_at (axes_of x)) (λ t. Ok (store_of t)) count >>= (λ stores. Ok (store_all s x.array stores))) ≡ Ok (store_all s x.array (transformed x y PrefixSum (pos 0) s))
  all-stored = ap (λ r. r >>= (λ stores. Ok (store_all s x.array stores))) (each-is (indices_at (axes_of x)) (λ t. Ok (store_of t)) store_of count (λ t lt. refl))

  pub prefix-goes : Goes table row_count moves code n many None leave again (transformed_trail x y PrefixSum (pos 0) line s) (pc + 4) b slots m0
      (normal (store_all s x.array (transformed x y PrefixSum (pos 0) s)))
  prefix-goes =
      let e : pc + 3 + 1 ≡ pc + 4 = omega arith in
      let at : pc + 1 + 1 + 1 ≡ pc + 3 = omega arith in
      goes-on table row_count moves code n many None leave again first second (pc + 4) b b slots slots m0 m3 (normal (store_all s x.array (transformed x y PrefixSum (pos 0) s))) (omega arith)
      (reaches-last table row_count moves code first m0 m2 m3 (reaches-on table row_count moves code m0 m1 m2 makes copies) scans)
      (kept-refl table row_count moves code n many None b slots)
      (subst (λ to. Goes table row_count moves code n many None leave again second to b slots m3 (normal (store_all s x.array (transformed x y PrefixSum (pos 0) s)))) e
      (passes-go table row_count moves code n many None leave again (ParNest q) (nest_tuples table.shapes q) (nest_spot table.shapes q) refl line x.array b (pc + 3) lx
      (subst (λ at. slice_get code at ≡ Some (ParNest q)) at has.1.1.1.0, tt) slots rows3 s holds3 count
      (ap space_count (ap extents target ∙ axes-extents (axes_of x) ∙ all-places x) ∙ spaced) (indices_at (axes_of x)) (λ t. Ok (store_of t)) does second second-those
      (store_all s x.array (transformed x y PrefixSum (pos 0) s)) all-stored))
