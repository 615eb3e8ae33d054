-- What the laws of nests ask of the machine's slots and rows holds where a nest stands.
use Rattle.std.proofs.Common.{◌≡◌, ℕ, ◌+◌, ◌*◌, ◌<◌, ◌≤◌, nat_lt, List, [], ◌∷◌, length, map, replicate, get_or, ℤ, pos, Bool, true, false, Some, None, Ok, if◌then◌else◌, refl, sym, ap, ap₂, ◌∙◌, subst, arith, eqb-true}
use Rattle.std.specs.Prelude.{nat_le, ◌&&◌, ◌==◌}
use Rattle.std.specs.List.{Contains, list_all}
use Rattle.std.specs.Cmp.{first_so, second_so}
use Rattle.std.proofs.lemmas.Bool.Decides.{nat_tests}
use Rattle.std.proofs.lemmas.List.{get_or_append_left, get_or-append-add, get_or-replicate, length-replicate, length-append}
use Rattle.array_meaning.specs.declared.limits.TheConstants.{MAX_TUPLES}
use Rattle.storage.specs.Storage.{Storage, row_of, read}
use Rattle.machine_steps.specs.SameLayouts.{is_same_layout}
use Rattle.array_meaning.specs.declared.sections.Selection.TheVariants.{Along}
use Rattle.array_meaning.specs.declared.faults.FaultKind.TheVariants.{SpaceLimit}
use Rattle.array_meaning.specs.Faults.{Fault, fails}
use Rattle.array_meaning.specs.State.{State, scalar, array}
use Rattle.array_meaning.specs.Statements.{Loop, Nest, Block, Done, Then}
use Rattle.array_meaning.specs.Touches.{iteration_touches}
use Rattle.array_meaning.specs.Iterations.{nest_axes, nest_indices, iteration_count}
use Rattle.array_meaning.specs.NestEntry.{unless_clash}
use Rattle.array_meaning.specs.NestLimits.{is_nest_in_limits, is_block_in_limits, is_in_limits}
use Rattle.array_meaning.specs.Clashes.{first_clash}
use Rattle.array_meaning.specs.Forall.{is_index_in_limits}
use Rattle.code_meaning.specs.Flat.{slot}
use Rattle.node_code.specs.Forms.{Sub}
use Rattle.code_meaning.specs.Forms.{selections_in}
use Rattle.node_code.specs.Instructions.{Instruction, NewMapping}
use Rattle.code_meaning.specs.Instructions.{ArrayTable}
use Rattle.code_meaning.specs.NestStatements.{iterations_at, copies_extents}
use Rattle.code_meaning.specs.Anchors.{anchor_in}
use Rattle.nest_syntax.specs.NestKinds.{Kind, Shared, has_copies}
use Rattle.nest_order.specs.Copies.{scalar_at, entry_copies, with_copies}
use Rattle.lowered_expressions.specs.Anchors.{IsAnchorText}
use Rattle.lowered_expressions.proofs.Reach.{Idle}
use Rattle.nest_items.specs.StateStorage.{storage_of}
use Rattle.nest_items.specs.Standing.{AreKinds}
use Rattle.nest_items.specs.NestForm.{IsNest}
use Rattle.nest_syntax.specs.Assigning.{ToScalar, ToElement, Assigning}
use Rattle.nest_items.specs.Paths.{PathsAssign}
use Rattle.nest_items.proofs.Storing.{if_so, if_not, row-at, rows-length}
use Rattle.nest_join.specs.NestParts as whole
use Rattle.nest_join.specs.NestParts.{opened}
use Rattle.nest_join.proofs.Opening.{condition_rows}
use Rattle.nest_machine.specs.Body.{count_body}
use Rattle.nest_machine.specs.Slots.{SameSlots}
use Rattle.nest_machine.specs.Trace.{Data}
use Rattle.nest_syntax.specs.Finals.{Final}
use Rattle.nest_machine.specs.Finals.{final_slot}
use Rattle.nest_machine.specs.Placed.{PlacedTexts}
use Rattle.nest_machine.specs.PlacedEnds.{IsPlacedFinal}
use Rattle.nest_machine.proofs.PlacedCopies.{row-each}
use Rattle.nest_join.specs.NestBodies.{nest_layout}
use Rattle.statement_trail.specs.NestParts.{index_in, nest_anchor}
use Rattle.nest_join.specs.NestNames.{NestNames}
use Rattle.nest_join.specs.NestTexts.{NestAction, assignment_text, text_of, test_of, texts_of, HoldsEntry}
use Rattle.nest_join.specs.CodedBlocks.{IsCodedBlock, coded}
use Rattle.program_code.specs.Places.{AreScalars}
use Rattle.nest_join.specs.NestRuns.{NestCode, machine_body, HoldsRows, HasFinals}
use Rattle.nest_join.proofs.RowPlaces.{condition-place, condition-row, marks-off, copies-after, marks-after, not-among}
use Rattle.nest_join.proofs.MadeRows.{names-unmade}
use Rattle.nest_join.proofs.ListedFinals.{has-final}
use Rattle.program_code.specs.NestCode.{nest_beside, plain, text_in, test_in, scalars, conditions, kinds_in, stored, finals, along}
use Rattle.lowered_nests.specs.NamesIn.{names_in}
use Rattle.lowered_nests.proofs.NestRuns.{HasCopies, NestStands}
use Rattle.lowered_nests.proofs.PlainCode.{same-count}
use Rattle.lowered_nests.proofs.OneKind.{one-kind}
use Rattle.lowered_nests.proofs.Listed.{and-off, in-some, in-none}
use Rattle.lowered_nests.proofs.FreeIndices.{IsBody, nest-body}
use Rattle.lowered_nests.proofs.CodedTexts.{same-block}
use Rattle.lowered_nests.proofs.NestAnchors.{nest-anchored}
use Rattle.lowered_nests.proofs.CodedBody.{are-scalars, of-scalars, array-row, block-coded}
use Rattle.lowered_nests.proofs.Standing.{same-along, these-indices, these-many}
use Rattle.lowered_nests.proofs.Counted.{count-of}

module _ (table : ArrayTable) (row_count : ℕ) (moves : ℕ → List NewMapping) (code : List Instruction) (n many : ℕ) (lie : HasCopies table n)
    (line pc v : ℕ) (nest : Nest) (loop : Loop) (block body : Block) (s : State) (slots : List ℤ) (rows : Storage)
    (h : NestStands table row_count moves code n many line pc v nest loop block body s slots rows) (some : iteration_count nest s ≡ 0 → ⊥) where
  abbrev all : ℕ → Bool
  all = h.form.all

  abbrev kinds : ℕ → Kind
  kinds = kinds_in n nest body

  abbrev N : ℕ
  N = iteration_count nest s

  abbrev ks : List ℕ
  ks = scalars n nest body

  abbrev conds : ℕ
  conds = conditions n nest body

  abbrev b : ℕ
  b = v + 4 * length nest.loops

  abbrev over : List Sub
  over = along v nest.loops

  -- the indices that are declared names
  abbrev pub is_index : ℕ → Bool
  is_index k = all k && nat_lt k n

  abbrev pub w : NestNames
  w = names_in table n nest body over is_index

  abbrev pub c : NestCode
  c = record { line = line; pc = pc; slot = b; stored = stored n nest body; row = n; finals = finals n nest body; alike = is_same_layout }

  abbrev pub start : Storage
  start = opened kinds s conds N

  abbrev pub machine_data : Idle row_count → Data Fault
  machine_data i = record { rows = rows; layouts = i.layouts; kept = None; parts = i.parts }

  -- ---- by the kinds of the code

  pub formed : IsNest kinds all nest loop block body
  formed = subst (λ x. IsNest x all nest loop block body) (one-kind nest loop block body h.form) h.form.form

  pub kinds-are : AreKinds kinds nest body
  kinds-are = subst (λ x. AreKinds x nest body) (one-kind nest loop block body h.form) h.form.kinds

  pub paths-are : PathsAssign kinds (λ k. false) body
  paths-are = subst (λ x. PathsAssign x (λ k. false) body) (one-kind nest loop block body h.form) h.form.paths

  pub inside : IsBody kinds all n nest body
  inside = nest-body kinds all n nest loop block body formed h.named

  pub ok : IsCodedBlock w s [] body
  ok = block-coded table n nest body over all s h.fits.scalars formed.quiet inside.named inside.free [] inside.are body inside.keeps inside.named h.form.texts

  pub anchored : IsAnchorText n (nest_anchor nest body)
  anchored = nest-anchored n all nest body inside.named h.form.texts

  pub count-is : count_body (machine_body w c s body ok) ≡ conds
  count-is = count-of (coded w s [] body ok)
      ∙ same-count (text_of w) (text_in n nest body) (test_of w) (test_in n nest body) (coded w s [] body ok) (plain body) (same-block table n nest body over is_index s [] body ok)

  pub are : AreScalars n ks
  are = are-scalars n nest body

  pub listed : (k : ℕ) → has_copies (kinds k) ≡ true → (j : ℕ) × (index_in ks 0 k ≡ Some j)
  listed k e = in-some ks 0 k (sym (of-scalars table n nest body over all s h.fits.scalars formed.quiet inside.named k) ∙ e)

  -- ---- slots

  pub outside : (x : ℕ) → n ≤ x → is_index x ≡ false
  outside x le = let e : nat_lt x n ≡ false = grind (arith, nat_tests, le) in ap (λ t. all x && t) e ∙ and-off (all x)

  pub from : n ≤ b
  from = let z = h.from in omega (arith, z)

  pub gives : (s' : List ℤ) → SameSlots is_index b slots s' → selections_in s' over ≡ map Along (nest_axes s nest)
  gives s' same = sym (same-along nest.loops v slots s' (λ x le lt. same.1 x lt (outside x (let z = h.from in omega (arith, z, le))))) ∙ h.bounds

  pub entry-held : HoldsEntry w b slots s
  entry-held = record {
    scalars = h.holds.places;
    arrays = h.holds.more_places;
    below = from;
    slots = λ k lt e. h.holds.scalars k lt;
    shapes = h.holds.arrays.shape;
    tuples = λ s' same i. these-indices over (nest_axes s nest) s' (gives s' same) i;
  }

  -- ---- the limit

  in-limits : is_nest_in_limits nest body s ≡ true
  in-limits = by_test (N == 0) refl (is_nest_in_limits nest body s) refl h.passed
    where
      by_test : (z : Bool) → (N == 0) ≡ z → (l : Bool) → is_nest_in_limits nest body s ≡ l
          → (if z then Ok s else if l then unless_clash s (nest_axes s nest) (first_clash (iteration_touches nest body s) N) else fails SpaceLimit) ≡ Ok s → l ≡ true
      by_test true e l f g = absurd (some (eqb-true N 0 e))
      by_test false e true f g = refl
      by_test false e false f g = absurd cc

  limit : N ≤ MAX_TUPLES
  limit = of_block body h.statements (second_so (list_all is_index_in_limits (nest_axes s nest)) (is_block_in_limits (nest_indices nest) s N body) in-limits)
    where
      of_block : (x : Block) → (x ≡ Done → ⊥) → is_block_in_limits (nest_indices nest) s N x ≡ true → N ≤ MAX_TUPLES
      of_block Done some e = absurd (some refl)
      of_block (Then l st rest) some e =
          let both = first_so (nat_le N MAX_TUPLES && is_in_limits (nest_indices nest) s N st) (is_block_in_limits (nest_indices nest) s N rest) e in
          let one = first_so (nat_le N MAX_TUPLES) (is_in_limits (nest_indices nest) s N st) both in
          grind (arith, nat_tests, one)

  -- ---- rows

  pub even : length s.scalars ≡ length s.arrays
  even = h.holds.places ∙ sym h.holds.more_places

  pub copied-below : (k : ℕ) → has_copies (kinds k) ≡ true → k < n
  copied-below k e = let z = listed k e in are.below k z.0 z.1

  pub copied-there : (k : ℕ) → has_copies (kinds k) ≡ true → k < length s.arrays
  copied-there k e = subst (λ m. k < m) (sym h.holds.more_places) (copied-below k e)

  pub row-is : (k : ℕ) → k < n → row_of start k ≡ (if has_copies (kinds k) then scalar s k ∷ [] else (array s k).elements)
  row-is k lt =
      let there : k < length s.arrays = subst (λ m. k < m) (sym h.holds.more_places) lt in
      get_or_append_left (storage_of kinds s) (replicate conds (replicate N (pos 0))) [] k (omega (arith, there, rows-length kinds s 0 s.arrays))
      ∙ row-at kinds s k there

  pub later-row : (k : ℕ) → k < conds → row_of start (n + k) ≡ replicate N (pos 0)
  later-row k lt =
      subst (λ l. row_of start (l + k) ≡ get_or (replicate conds (replicate N (pos 0))) k []) (rows-length kinds s 0 s.arrays ∙ h.holds.more_places)
      (get_or-append-add (storage_of kinds s) (replicate conds (replicate N (pos 0))) k [])
      ∙ get_or-replicate conds k (replicate N (pos 0)) [] lt

  pub start-long : length start ≡ n + conds
  start-long =
      length-append (storage_of kinds s) (replicate conds (replicate N (pos 0)))
      ∙ ap₂ (λ x y. x + y) (rows-length kinds s 0 s.arrays ∙ h.holds.more_places) (length-replicate conds (replicate N (pos 0)))

  pub condition-shared : (k : ℕ) → k < conds → kinds (n + k) ≡ Shared
  condition-shared k lt = subst (λ m. kinds (m + k) ≡ Shared) h.holds.more_places (condition_rows kinds s even copied-there conds N k lt).0

  condition-long : (k : ℕ) → k < conds → length (row_of (with_copies kinds N start) (n + k)) ≡ N
  condition-long k lt =
      let there : n + k < length start = (let z = start-long in omega (arith, z, lt)) in
      let e : 0 + (n + k) ≡ n + k = omega arith in
      ap length (row-each (λ row. entry_copies (kinds row) N) 0 start (n + k) there ∙ ap (λ z. entry_copies (kinds z) N (row_of start (n + k))) e
      ∙ ap (λ kind. entry_copies kind N (row_of start (n + k))) (condition-shared k lt) ∙ later-row k lt) ∙ length-replicate N (pos 0)

  off-marks : (a : NestAction w) (q : ℕ) → (text_of w a).mark ≡ Some q → (r : ℕ) → w.is_row r ≡ true → w.place r ≡ q → ⊥
  off-marks a q e r of_row at = by_text a.action.text refl
    where
      by_text : (t : Assigning) → a.action.text ≡ t → ⊥
      by_text (ToScalar k t) is =
          marks-off n ks conds are kinds k q (subst (λ x. (assignment_text w a.action.line a.action.copies x).mark ≡ Some q) is e) r of_row at
      by_text (ToElement x ts t) is =
          let z : None ≡ Some q = subst (λ x. (assignment_text w a.action.line a.action.copies x).mark ≡ Some q) is e in absurd cc

  abbrev Fit : ℕ → Type 0
  Fit m = PlacedTexts (texts_of w) (iterations_at over) (nest_layout table over (nest_beside nest body)) (stored n nest body) n m w.place w.is_row is_index (whole.copies kinds nest s start) N b slots

  pub texts-fit : Fit (count_body (machine_body w c s body ok))
  texts-fit = subst Fit (sym count-is) (record {
    sized = λ s' same. these-many over (nest_axes s nest) s' (gives s' same) limit;
    laid = λ layouts s' same. lie.sized layouts (anchor_in s' over (nest_beside nest body)) (copies_extents over s') ∙ these-many over (nest_axes s nest) s' (gives s' same) limit;
    conditions = λ k lt. (condition-place n ks conds are k, condition-row n ks conds are k lt, condition-long k lt);
    marks = off-marks;
  })

  pub rows-held : (i : Idle row_count) → HoldsRows w c s (count_body (machine_body w c s body ok)) start (machine_data i)
  rows-held i = subst (λ m. HoldsRows w c s m start (machine_data i)) (sym count-is) (record {
    elements = h.holds.arrays.elements;
    names = omega arith;
    stored = omega arith;
    unmade = names-unmade n ks conds kinds;
    copies = λ k e. let z = listed k e in copies-after n ks conds are k z.0 z.1;
    marks = λ k r e. marks-after n ks conds are kinds k r e;
    arrays = λ a lt e.
        let z = array-row table n nest body over all s h.fits.scalars formed.quiet inside.named a lt e in
        (z.0, z.1, row-is a lt ∙ if_not (has_copies (kinds a)) (scalar s a ∷ []) (array s a).elements e);
  })

  value-held : (k : ℕ) → k < n → has_copies (kinds k) ≡ true → slot slots k ≡ read start (scalar_at k)
  value-held k lt e = h.holds.scalars k lt ∙ sym (ap (λ r. get_or r 0 (pos 0)) (row-is k lt ∙ if_so (has_copies (kinds k)) (scalar s k ∷ []) (array s k).elements e))

  abbrev Final_of : ℕ → ℕ → Type 0
  Final_of m k = (f : Final) × Contains c.finals f × (final_slot f ≡ k)
      × IsPlacedFinal (texts_of w) c.stored n m b w.place w.is_row is_index kinds start slots f k

  pub finals-are : HasFinals w c s body ok start slots
  finals-are = record {
    copied = λ k lt e. subst (λ m. Final_of m k) (sym count-is) (let z = listed k e in
        has-final w ks conds are (λ x. refl) (λ x. refl) listed (λ x. refl) b start slots from k z.0 lt z.1 (ap (λ t. t && nat_lt k n) (formed.quiet k e)) (value-held k lt e) e);
    others = λ k lt e. not-among n ks conds are kinds ks 0 0 k (in-none ks 0 k (sym (of-scalars table n nest body over all s h.fits.scalars formed.quiet inside.named k) ∙ e));
  }
