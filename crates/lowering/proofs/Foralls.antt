-- The code of a FORALL does what it means.
use Rattle.node_code.specs.Instructions.{NewMapping, Instruction, ForallLimits, OneToOne, ParForall, ParForallCopy}
use Rattle.code_meaning.specs.Beside.{Anchor}
use Rattle.code_meaning.specs.Instructions.{ArrayTable, meaning_of, go_on_if}
use Rattle.std.proofs.Common.{◌≡◌, ℕ, ◌+◌, ◌<◌, ◌≤◌, ◌==◌, ◌||◌, ◌&&◌, nat_le, List, [], ◌∷◌, ◌++◌, map, length, ℤ, pos, Bool, true, false, if◌then◌else◌, Option, Some, None, option_map, Result, Ok, Err, refl, sym, ap, ◌∙◌, subst, arith, length-append, append-nil, slice_get, slice_index_or}
use Rattle.std.proofs.lemmas.Bool.Decides.{Decides-eqb}
use Rattle.std.specs.List.{list_all}
use Rattle.array_meaning.specs.declared.limits.TheConstants.{MAX_TUPLES}
use Rattle.hpf_base.specs.ElementOrder.{product}
use Rattle.machine_steps.specs.Space.{space_count}
use Rattle.op_tables.specs.Operators.{is_true}
use Rattle.storage.specs.Storage.{Storage, read}
use Rattle.array_meaning.specs.declared.faults.FaultKind.{FaultKind}
use Rattle.array_meaning.specs.declared.faults.FaultKind.TheVariants.{NotOneToOne, SpaceLimit}
use Rattle.array_meaning.specs.declared.sections.Sequence.{Sequence}
use Rattle.array_meaning.specs.declared.sections.Selection.TheVariants.{Along}
use Rattle.array_meaning.specs.declared.sections.Store.{Store}
use Rattle.array_meaning.specs.Terms.{Term, Control, list_of}
use Rattle.array_meaning.specs.Statements.{ElementAssignment, Forall}
use Rattle.array_meaning.specs.Faults.{Cause, Fault, ◌>>=◌, fails, with_more, at_tuple}
use Rattle.array_meaning.specs.State.{State}
use Rattle.array_meaning.specs.Runs.{Run, normal, then_do, one_step, with_value, Completion, Normal, Exited, Cycled, Stopped}
use Rattle.array_meaning.specs.Sections.{extents, subscripts_at}
use Rattle.array_meaning.specs.Elementals.{each}
use Rattle.array_meaning.specs.Expressions.{value, values, selections, index_values, all_index_values}
use Rattle.array_meaning.specs.ArrayAssignments.{Mask, store_at, if_true, mask_of}
use Rattle.array_meaning.specs.Forall.{index_extents, indices_at, all_subscripts, is_index_in_limits, is_forall_in_limits, is_one_to_one, check, check_limits, check_one_to_one, mask_over, assign_forall, assign_all_forall, run_forall}
use Rattle.machine_steps.specs.Layout.{Layout, size_of}
use Rattle.machine_steps.specs.Instr.{Running, Local, Outcome}
use Rattle.machine_steps.specs.Machine as machine
use Rattle.machine_steps.specs.Machine.{step_by, steps}
use Rattle.code_meaning.specs.Flat.{slot}
use Rattle.node_code.specs.Forms.{Sub}
use Rattle.code_meaning.specs.Forms.{selections_at, selections_in, elemental_at}
use Rattle.node_code.specs.Parallel.{When, Assignment, Evaluation}
use Rattle.code_meaning.specs.Parallel.{at_line, outcome_if, outcome_of, mask_reads, is_asked, spot_of, reads_at, value_by_reads, assigned_value, indices_in, forall_tuples, forall_spot, forall_mask_tuples}
use Rattle.code_meaning.specs.ForallLimits.{term_of, slots_state, sequences_of, unless_empty, forall_limits, one_to_one}
use Rattle.program_code.specs.ExpressionCode.{subscripts_slots, subs_of, subscripts_code, control_slots, index_flat, index_form, anchor_code}
use Rattle.program_code.specs.StatementCode.{triplets, one_to_one_code, forall_beside, forall_mask_code, forall_assignment, forall_assignments_code, forall_code, where_true}
use Rattle.lowered_expressions.specs.WellFormed.{AreSubscripts, IsIndexed, AreScalarSubscripts, AreControls, IsIndexedMask, AreIndexedAssignments}
use Rattle.std.specs.Prelude.{is_some}
use Rattle.statement_trail.specs.Anchors.{AnchorText, forall_anchor}
use Rattle.statement_trail.specs.Trail.{Trail, ForallMask, ElementsAssigned, after_value, after_run, reached, value_trail, selections_trail, control_trail, all_controls_trail, forall_trail, forall_parts_trail, if_not_empty, trail}
use Rattle.lowered_expressions.specs.Anchors.{IsAnchorText}
use Rattle.lowered_expressions.specs.Passed.{IsMaskCopy, note, IsTrail}
use Rattle.lowered_expressions.proofs.Anchors.{forall-anchored}
use Rattle.lowered_expressions.proofs.Goes.{goes-as, Holds, Kept, kept-refl, Goes, goes-at, goes-then-kept, goes-value, value-bind, lands-done}
use Rattle.lowering.proofs.Wheres.{after-made, forget}
use Rattle.lowering.proofs.Parts.{after-ok, triplet-trail, SubsGive, subscripts-come}
use Rattle.array_meaning.specs.Runs as runs
use Rattle.std.proofs.lemmas.Option.{same_Some}
use Rattle.lowered_expressions.proofs.Reach.{still, comes-as, Idle, HasAt, has-front, has-back, same-refl, stands, one, Comes}
use Rattle.lowered_expressions.proofs.Terms.{HoldsArrays}
use Rattle.lowered_expressions.proofs.Scatter.{Does, values_of, value-of-reads, counted-if}
use Rattle.lowering.proofs.Storing.{stores-go}
use Rattle.lowering.proofs.IndexedStores.{extents-are, indices-are, indexed-does}
use Rattle.lowering.proofs.Copies.{copy-goes}
use Rattle.lowered_expressions.proofs.Indexed.{axes-extents, all-listed, all-in-forall, indexed-value, indexed-names, limits-are, one-to-one-are}

-- ---- the header

header-is : (s : State) (cs : List Control) → selections [] s (triplets cs) ≡ (all_index_values s cs >>= (λ axes. Ok (map Along axes)))
header-is s [] = refl
header-is s (c ∷ cs) = ap (with_more (index_values s c >>= (λ p. Ok (Along p)))) (header-is s cs) ∙ by_results (index_values s c) (all_index_values s cs)
  where
    by_results : (q : Result Sequence Cause) (r : Result (List Sequence) Cause) → with_more (q >>= (λ p. Ok (Along p))) (r >>= (λ axes. Ok (map Along axes)))
        ≡ (with_more q r >>= (λ axes. Ok (map Along axes)))
    by_results (Ok p) (Ok axes) = refl
    by_results (Ok p) (Err c) = refl
    by_results (Err c) r = refl

header-scalar : (n : ℕ) (cs : List Control) → AreControls n cs → AreScalarSubscripts n (triplets cs)
header-scalar n [] ok = tt
header-scalar n (c ∷ cs) ok = (ok.0, header-scalar n cs ok.1)

header-sequences : (axes : List Sequence) → sequences_of (map Along axes) ≡ axes
header-sequences [] = refl
header-sequences (p ∷ axes) = ap (λ ps. p ∷ ps) (header-sequences axes)

-- it hangs on hidden slots alone
header-kept : (n b c : ℕ) (cs : List Control) (xs ys : List ℤ) → n ≤ b → b + subscripts_slots (triplets cs) ≤ c → ((k : ℕ) → n ≤ k → k < c → slot xs k ≡ slot ys k)
    → selections_in xs (subs_of b (triplets cs)) ≡ selections_in ys (subs_of b (triplets cs))
header-kept n b c [] xs ys le few same = refl
header-kept n b c (x ∷ cs) xs ys le few same =
    let v : ℕ = b + control_slots x in
    rw (
      same v (omega (arith, le)) (omega (arith, few)),
      same (v + 1) (omega (arith, le)) (omega (arith, few)),
      same (v + 2) (omega (arith, le)) (omega (arith, few)),
      header-kept n (v + 3) c cs xs ys (omega (arith, le)) (omega (arith, few)) same,
    ) refl

-- ---- the meaning, where an empty space passes all tests

-- an assignment's test
abbrev one_is_to_one : Bool → List ℕ → ElementAssignment → State → Run
one_is_to_one e ns b s = one_step b.line s (check (e || is_one_to_one s (list_of b.subscripts) 0 ns) NotOneToOne s)

abbrev all_one_to_one : Bool → List ℕ → List ElementAssignment → State → Run
all_one_to_one e ns [] s = normal s
all_one_to_one e ns (b ∷ bs) s = then_do (one_is_to_one e ns b s) (all_one_to_one e ns bs)

-- a run that passes nothing, and nothing after it
after-none : (r : Run) → after_run r (λ s. []) ≡ []
after-none r = by_completion r.completion
  where
    by_completion : (c : Completion) → after_run (record { state = r.state; completion = c }) (λ s. []) ≡ []
    by_completion Normal = refl
    by_completion Exited = refl
    by_completion Cycled = refl
    by_completion Stopped = refl
    by_completion (runs.Faulted f) = refl

-- what the header passes
header-trail : (line : ℕ) (s : State) (cs : List Control) → selections_trail line s (triplets cs) ≡ all_controls_trail line s cs
header-trail line s [] = refl
header-trail line s (c ∷ cs) =
    triplet-trail (value_trail line s c.first) (value_trail line s c.last) (value_trail line s c.step) (value [] s c.first) (value [] s c.last) (value [] s c.step)
    (selections_trail line s (triplets cs))
    ∙ ap (λ T. control_trail line s c ++ T) (after-ok (index_values s c) Along (selections_trail line s (triplets cs)))
    ∙ ap (λ X. control_trail line s c ++ after_value (index_values s c) (λ p. X)) (header-trail line s cs)

module _ (line : ℕ) (mask : Option Term) (body : List ElementAssignment) (axes : List Sequence) where
  abbrev after : ℕ → State → Run
  after n s = with_value line s (mask_over s axes n mask) (λ m. assign_all_forall axes n m body s)

  abbrev tested : Bool → ℕ → State → Run
  tested e n s = then_do (one_step line s (check (e || is_forall_in_limits s axes (all_subscripts mask body)) SpaceLimit s))
      (λ s. then_do (all_one_to_one e (index_extents axes) body s) (after n))

  one-to-one-same : (ns : List ℕ) (bs : List ElementAssignment) (s : State) (next : State → Run) → then_do (all_one_to_one false ns bs s) next
      ≡ then_do (check_one_to_one ns bs s) next
  one-to-one-same ns [] s next = refl
  one-to-one-same ns (b ∷ bs) s next = by_test (is_one_to_one s (list_of b.subscripts) 0 ns) (one-to-one-same ns bs s next)
    where
      by_test : (t : Bool) → then_do (all_one_to_one false ns bs s) next ≡ then_do (check_one_to_one ns bs s) next
          → then_do (then_do (one_step b.line s (check t NotOneToOne s)) (all_one_to_one false ns bs)) next
          ≡ then_do (then_do (one_step b.line s (check t NotOneToOne s)) (check_one_to_one ns bs)) next
      by_test true e = e
      by_test false e = refl

  all-pass : (ns : List ℕ) (bs : List ElementAssignment) (s : State) → all_one_to_one true ns bs s ≡ normal s
  all-pass ns [] s = refl
  all-pass ns (b ∷ bs) s = all-pass ns bs s

  none-assigned : (m : Mask) (bs : List ElementAssignment) (s : State) → assign_all_forall axes 0 m bs s ≡ normal s
  none-assigned m [] s = refl
  none-assigned m (b ∷ bs) s = none-assigned m bs s

  forall-is : (n : ℕ) (s : State)
      → (if n == 0 then normal s else then_do (one_step line s (check_limits axes (all_subscripts mask body) s))
      (λ s. then_do (check_one_to_one (index_extents axes) body s) (after n))) ≡ tested (n == 0) n s
  forall-is n s = by_empty (n == 0) refl
    where
      by_limits : (t : Bool) → then_do (one_step line s (check t SpaceLimit s)) (λ s. then_do (check_one_to_one (index_extents axes) body s) (after n))
          ≡ then_do (one_step line s (check t SpaceLimit s)) (λ s. then_do (all_one_to_one false (index_extents axes) body s) (after n))
      by_limits true = sym (one-to-one-same (index_extents axes) body s (after n))
      by_limits false = refl

      by_mask : (m : Option Term) → with_value line s (mask_over s axes 0 m) (λ m. assign_all_forall axes 0 m body s) ≡ normal s
      by_mask None = none-assigned (λ t. true) body s
      by_mask (Some t) = none-assigned (mask_of []) body s

      by_empty : (e : Bool) → (n == 0) ≡ e
          → (if e then normal s else then_do (one_step line s (check_limits axes (all_subscripts mask body) s))
          (λ s. then_do (check_one_to_one (index_extents axes) body s) (after n))) ≡ tested e n s
      by_empty false is = by_limits (is_forall_in_limits s axes (all_subscripts mask body))
      by_empty true is =
          let none : n ≡ 0 = (Decides-eqb n 0).0 is in
          sym (ap (λ r. then_do r (after n)) (all-pass (index_extents axes) body s) ∙ ap (λ k. after k s) none ∙ by_mask mask)

  -- the same of what is passed
  one-to-one-passed : (ns : List ℕ) (bs : List ElementAssignment) (s : State) (F : State → Trail) → after_run (all_one_to_one false ns bs s) F
      ≡ after_run (check_one_to_one ns bs s) F
  one-to-one-passed ns [] s F = refl
  one-to-one-passed ns (b ∷ bs) s F = by_test (is_one_to_one s (list_of b.subscripts) 0 ns) (one-to-one-passed ns bs s F)
    where
      by_test : (t : Bool) → after_run (all_one_to_one false ns bs s) F ≡ after_run (check_one_to_one ns bs s) F
          → after_run (then_do (one_step b.line s (check t NotOneToOne s)) (all_one_to_one false ns bs)) F
          ≡ after_run (then_do (one_step b.line s (check t NotOneToOne s)) (check_one_to_one ns bs)) F
      by_test true e = e
      by_test false e = refl

  abbrev limits_trail : Bool → (State → Trail) → State → Trail
  limits_trail e F s = after_run (one_step line s (check (e || is_forall_in_limits s axes (all_subscripts mask body)) SpaceLimit s))
      (λ s. after_run (all_one_to_one e (index_extents axes) body s) F)

  tested-trail : (n : ℕ) (s : State) (F : State → Trail)
      → limits_trail (n == 0) F s
      ≡ after_run (if_not_empty n s (one_step line s (check_limits axes (all_subscripts mask body) s))) (λ s.
      after_run (if_not_empty n s (check_one_to_one (index_extents axes) body s)) F)
  tested-trail n s F = by_empty (n == 0)
    where
      by_limits : (t : Bool) → after_run (one_step line s (check t SpaceLimit s)) (λ s. after_run (all_one_to_one false (index_extents axes) body s) F)
          ≡ after_run (one_step line s (check t SpaceLimit s)) (λ s. after_run (check_one_to_one (index_extents axes) body s) F)
      by_limits true = one-to-one-passed (index_extents axes) body s F
      by_limits false = refl

      by_empty : (e : Bool) → limits_trail e F s
          ≡ after_run (if e then normal s else one_step line s (check_limits axes (all_subscripts mask body) s)) (λ s.
          after_run (if e then normal s else check_one_to_one (index_extents axes) body s) F)
      by_empty false = by_limits (is_forall_in_limits s axes (all_subscripts mask body))
      by_empty true = ap (λ r. after_run r F) (all-pass (index_extents axes) body s)

module _ (table : ArrayTable) (row_count : ℕ) (moves : ℕ → List NewMapping) (code : List Instruction) (n many leave again : ℕ) where
  -- ---- tests

  test-goes : (copy : Option (List ℤ)) (line pc b : ℕ) (x : Instruction) (test : List ℤ → Result ℕ Cause) (t : Bool) (kind : FaultKind) (slots : List ℤ) (rows : Storage)
      (s : State) → slice_get code pc ≡ Some x → meaning_of table x ≡ Local (λ c. go_on_if (at_line line (test c.slots)) c)
      → test slots ≡ (if t then Ok 0 else fails kind) → note x slots ≡ [] → Holds table row_count moves code n many copy s slots rows → Goes table row_count moves code n many copy leave again [] (pc + 1) b slots
      (stands table row_count moves code pc slots rows s.printed) (one_step line s (check t kind s))
  test-goes copy line pc b x test t kind slots rows s h is e quiet holds =
      by_test t (λ i. one table row_count moves code pc slots rows s.printed x h i ∙ ap (λ z. step_by z (stands table row_count moves code pc slots rows s.printed i)) is
      ∙ ap (λ q. record (stands table row_count moves code pc slots rows s.printed i) { control = go_on_if {A = ℕ} (at_line line q) (record { at = pc; slots = slots; status = Running }) })
      e)
    where
      by_test : (t : Bool)
          → ((i : Idle row_count) → steps (meaning_of table) 1 (stands table row_count moves code pc slots rows s.printed i)
          ≡ record (stands table row_count moves code pc slots rows s.printed i) {
            control = go_on_if {A = ℕ} (at_line line (if t then Ok 0 else fails kind))
                (record { at = pc; slots = slots; status = Running });
          })
          → Goes table row_count moves code n many copy leave again [] (pc + 1) b slots (stands table row_count moves code pc slots rows s.printed) (one_step line s (check t kind s))
      by_test true g = (slots, rows, (λ i. (1, i, g i, still table row_count moves code pc slots rows s.printed x h quiet i)), kept-refl table row_count moves code n many copy b slots, holds)
      by_test false g = λ i. (_, (1, g i, still table row_count moves code pc slots rows s.printed x h quiet i), refl, refl, refl)

  -- what the slots say of the header
  module _ (line b b1 : ℕ) (controls : List Control) (axes : List Sequence) (le : n ≤ b) (room : b + subscripts_slots (triplets controls) ≡ b1) where
    abbrev over : List Sub
    over = subs_of b (triplets controls)

    abbrev ns : List ℕ
    ns = index_extents axes

    abbrev Gives : List ℤ → Type 0
    Gives slots = selections_in slots over ≡ map Along axes

    gives-kept : (copy : Option (List ℤ)) (slots slots1 : List ℤ) → Gives slots → Kept table row_count moves code n many copy b1 slots slots1 → Gives slots1
    gives-kept copy slots slots1 gives kept = sym (header-kept n b b1 controls slots slots1 le (omega (arith, room)) kept) ∙ gives

    -- ---- limits

    all-one-to-one : (copy : Option (List ℤ)) (xs : List ElementAssignment) (pc : ℕ) (slots : List ℤ) (rows : Storage) (s : State) → AreIndexedAssignments n xs
        → HasAt code pc (one_to_one_code over xs) → Holds table row_count moves code n many copy s slots rows → Gives slots
        → Goes table row_count moves code n many copy leave again [] (pc + length (one_to_one_code over xs)) b1 slots (stands table row_count moves code pc slots rows s.printed)
        (all_one_to_one (product ns == 0) ns xs s)
    all-one-to-one copy [] pc slots rows s ok has holds gives =
        let e : pc ≡ pc + 0 = omega arith in
        goes-at table row_count moves code n many copy leave again [] pc (pc + 0) b1 slots (stands table row_count moves code pc slots rows s.printed) (normal s) e
        (lands-done table row_count moves code n many copy leave again pc b1 slots rows s holds)
    all-one-to-one copy (x ∷ xs) pc slots rows s ok has holds gives =
        let cs = one_to_one_code over xs in
        let e : pc + 1 + length cs ≡ pc + length (one_to_one_code over (x ∷ xs)) = omega arith in
        goes-at table row_count moves code n many copy leave again [] (pc + 1 + length cs) (pc + length (one_to_one_code over (x ∷ xs))) b1 slots (stands table row_count moves code pc slots rows s.printed)
        (all_one_to_one (product ns == 0) ns (x ∷ xs) s) e
        (goes-as table row_count moves code n many copy leave again ([] ++ after_run (one_is_to_one (product ns == 0) ns x s) (λ s. [])) [] (pc + 1 + length cs) b1 slots
        (stands table row_count moves code pc slots rows s.printed) (all_one_to_one (product ns == 0) ns (x ∷ xs) s) (after-none (one_is_to_one (product ns == 0) ns x s))
        (goes-then-kept table row_count moves code n many copy leave again [] (λ s. []) (pc + 1) (pc + 1 + length cs) b1 slots (stands table row_count moves code pc slots rows s.printed)
        (one_is_to_one (product ns == 0) ns x s) (all_one_to_one (product ns == 0) ns xs)
        (test-goes copy x.line pc b1 (OneToOne x.line over (map index_flat (list_of x.subscripts))) (one_to_one over (map index_flat (list_of x.subscripts)))
        ((product ns == 0) || is_one_to_one s (list_of x.subscripts) 0 ns) NotOneToOne slots rows s has.0 refl
        (ap (λ ms. unless_empty ms (is_one_to_one (slots_state slots) (map term_of (map index_flat (list_of x.subscripts))) 0 ms) NotOneToOne) (extents-are over axes slots gives)
        ∙ ap (λ t. unless_empty ns t NotOneToOne) (one-to-one-are n s slots holds.scalars 0 (list_of x.subscripts) ns (all-listed n x.subscripts ok.1))) refl holds)
        (λ slots1 rows1 s1 kept holds1. all-one-to-one copy xs (pc + 1) slots1 rows1 s1 ok.3 has.1 holds1 (gives-kept copy slots slots1 gives kept))))

    -- ---- assignments

    assigns-all : space_count ns ≡ product ns → (copy : Option (List ℤ)) (when : Option When) (beside : Option AnchorText) (m : Mask) → IsMaskCopy n when → IsAnchorText n beside
        → ((s : State) (slots : List ℤ) (rows : Storage) → Holds table row_count moves code n many copy s slots rows → (t : ℕ) (values : List ℤ)
        → is_asked when (values_of rows (mask_reads when t) ++ values) ≡ m t)
        → (xs : List ElementAssignment) (pc : ℕ) (slots : List ℤ) (rows : Storage) (s : State) → AreIndexedAssignments n xs
        → HasAt code pc (forall_assignments_code over when (option_map anchor_code beside) xs) → Holds table row_count moves code n many copy s slots rows → Gives slots
        → Goes table row_count moves code n many copy leave again (forall_trail (is_some when) beside axes (product ns) m xs s) (pc + length (forall_assignments_code over when (option_map anchor_code beside) xs)) b1 slots (stands table row_count moves code pc slots rows s.printed)
        (assign_all_forall axes (product ns) m xs s)
    assigns-all all copy when beside m masks anchored asked [] pc slots rows s ok has holds gives =
        let e : pc ≡ pc + 0 = omega arith in
        goes-at table row_count moves code n many copy leave again [] pc (pc + 0) b1 slots (stands table row_count moves code pc slots rows s.printed) (normal s) e
        (lands-done table row_count moves code n many copy leave again pc b1 slots rows s holds)
    assigns-all all copy when beside m masks anchored asked (x ∷ xs) pc slots rows s ok has holds gives =
        goes-at table row_count moves code n many copy leave again (forall_trail (is_some when) beside axes (product ns) m (x ∷ xs) s) (pc + 2 + length cs) (pc + length (forall_assignments_code over when (option_map anchor_code beside) (x ∷ xs))) b1 slots
        (stands table row_count moves code pc slots rows s.printed) (assign_all_forall axes (product ns) m (x ∷ xs) s) long
        (goes-then-kept table row_count moves code n many copy leave again entry (forall_trail (is_some when) beside axes (product ns) m xs) (pc + 2) (pc + 2 + length cs) b1 slots (stands table row_count moves code pc slots rows s.printed)
        (one_step x.line s (assign_forall axes (product ns) m x s)) (assign_all_forall axes (product ns) m xs)
        (stores-go table row_count moves code n many copy leave again (ParForall p) (forall_tuples table.shapes p) (forall_spot table.shapes p) refl x.line x.array b1 pc ok.0
        (has.0, (has.1.0, tt)) slots rows s holds (product ns) (ap space_count (extents-are over axes slots gives) ∙ all) (indices_at axes) at_a_tuple (λ u lt. does u) entry those)
        (λ slots1 rows1 s1 kept holds1. assigns-all all copy when beside m masks anchored asked xs (pc + 2) slots1 rows1 s1 ok.3 at_rest holds1 (gives-kept copy slots slots1 gives kept)))
      where
        cs : List Instruction
        cs = forall_assignments_code over when (option_map anchor_code beside) xs

        long : pc + 2 + length cs ≡ pc + length (forall_assignments_code over when (option_map anchor_code beside) (x ∷ xs))
        long = omega arith

        at_rest : HasAt code (pc + 2) cs
        at_rest = let e : pc + 1 + 1 ≡ pc + 2 = omega arith in subst (λ at. HasAt code at cs) e has.1.1

        p : Assignment
        p = forall_assignment over when (option_map anchor_code beside) x

        entry : Trail
        entry = reached x.line s (ElementsAssigned (is_some when) beside axes x.array x.subscripts x.right)

        those : IsTrail moves (note (ParForall p) slots) entry
        those = (
          record {
            scalars = λ k lk. holds.scalars k (omega (arith, lk, holds.places));
            event = (
              refl,
              (
                beside,
                axes,
                x.subscripts,
                x.right,
                refl,
                gives,
                refl,
                (λ indices. refl),
                (λ w e. masks w e ∙ sym holds.places),
                subst (λ k. AreSubscripts k x.subscripts) (sym holds.places) ok.1,
                subst (λ k. IsIndexed k x.right) (sym holds.places) ok.2,
                (refl, subst (λ k. IsAnchorText k beside) (sym holds.places) anchored),
              ),
            );
          },
          tt,
        )

        at_a_tuple : ℕ → Result (Option Store) Cause
        at_a_tuple u = if_true (m u) (values (indices_at axes u) s x.subscripts >>= (λ is. store_at s x.array is (value (indices_at axes u) s x.right)))

        by_values : List ℤ → List ℤ → ℕ → Outcome Fault
        by_values y vs from = outcome_if (is_asked when vs)
            (at_line x.line (assigned_value table.shapes x.array (selections_at slots y p.left) (elemental_at slots y p.right) y vs from))

        does-at : (u : ℕ) (y : List ℤ) → Does x.line x.array (spot_of table.shapes x.array (subscripts_at (selections_at slots y p.left) y))
            (by_values y (values_of rows (mask_reads when u ++ reads_at table.shapes y (elemental_at slots y p.right))) (length (mask_reads when u)))
            (at_tuple y (if_true (m u) (values y s x.subscripts >>= (λ is. store_at s x.array is (value y s x.right)))))
        does-at u y =
            indexed-does n table.shapes s slots rows holds.scalars holds.arrays x.line x.array x.subscripts x.right ok.0 ok.1 ok.2 when u (m u) (λ values. asked s slots rows holds u values)
            y (elemental_at slots y p.right) refl

        does : (u : ℕ) → Does x.line x.array (forall_spot table.shapes p slots u) (machine.outcome_of (forall_tuples table.shapes p) slots (read rows) u)
            (at_tuple (indices_at axes u) (at_a_tuple u))
        does u =
            subst (λ y. Does x.line x.array (spot_of table.shapes x.array (subscripts_at (selections_at slots y p.left) y))
            (by_values y (values_of rows (mask_reads when u ++ reads_at table.shapes y (elemental_at slots y p.right))) (length (mask_reads when u)))
            (at_tuple (indices_at axes u) (at_a_tuple u)))
            (sym (indices-are over axes slots gives u)) (does-at u (indices_at axes u))

    -- ---- the mask

    module _ (sized : (layouts : List Layout) (anchor : Option Anchor) (ms : List ℕ) → size_of (table.copies layouts anchor ms) ≡ space_count ms) (body : List ElementAssignment) (ok_body : AreIndexedAssignments n body)
        (all : space_count ns ≡ product ns) where
      abbrev beside : Option AnchorText
      beside = forall_anchor body

      anchored : IsAnchorText n beside
      anchored = forall-anchored n body ok_body

      after-goes : (mask : Option Term) (pc : ℕ) (slots : List ℤ) (rows : Storage) (s : State) → IsIndexedMask n mask
          → HasAt code pc (forall_mask_code n line over (forall_beside body) mask ++ forall_assignments_code over (option_map (λ t. where_true n true) mask) (forall_beside body) body)
          → Holds table row_count moves code n many None s slots rows → Gives slots
          → Goes table row_count moves code n many None leave again (forall_parts_trail line axes mask body s)
          (pc + length (forall_mask_code n line over (forall_beside body) mask ++ forall_assignments_code over (option_map (λ t. where_true n true) mask) (forall_beside body) body)) b1 slots
          (stands table row_count moves code pc slots rows s.printed) (after line mask body axes (product ns) s)
      after-goes None pc slots rows s ok has holds gives = assigns-all all None None beside (λ t. true) (λ w e. cc) anchored (λ s slots rows h t values. refl) body pc slots rows s ok_body has holds gives
      after-goes (Some t) pc slots rows s ok has holds gives =
          goes-at table row_count moves code n many None leave again (forall_parts_trail line axes (Some t) body s) to (pc + length (forall_mask_code n line over (forall_beside body) (Some t) ++ cs)) b1 slots (stands table row_count moves code pc slots rows s.printed)
          (after line (Some t) body axes (product ns) s) long
          (subst (Goes table row_count moves code n many None leave again (forall_parts_trail line axes (Some t) body s) to b1 slots (stands table row_count moves code pc slots rows s.printed))
          (sym (value-bind line s (each (indices_at axes) (λ u. value (indices_at axes u) s t) (product ns)) (λ vs. Ok (mask_of vs))
          (λ m. assign_all_forall axes (product ns) m body s)))
          (goes-as table row_count moves code n many None leave again (entry ++ after_value (each (indices_at axes) (λ u. value (indices_at axes u) s t) (product ns)) made) (forall_parts_trail line axes (Some t) body s) to b1 slots
          (stands table row_count moves code pc slots rows s.printed)
          (with_value line s (each (indices_at axes) (λ u. value (indices_at axes u) s t) (product ns)) (λ vs. assign_all_forall axes (product ns) (mask_of vs) body s))
          (ap (λ T. entry ++ T) (sym (after-made (each (indices_at axes) (λ u. value (indices_at axes u) s t) (product ns)) mask_of (λ m. forall_trail true beside axes (product ns) m body s))))
          (copy-goes table row_count moves code n many leave again sized line b1 pc to (index_form t) over (forall_beside body) (ParForallCopy n p) (forall_mask_tuples table.shapes p) refl
          (has.0, (has.1.0, (has.1.1.0, tt))) slots rows s holds ns (extents-are over axes slots gives) (ap space_count (extents-are over axes slots gives) ∙ all) all (indices_at axes)
          (λ u. value (indices_at axes u) s t)
          does entry those made (λ vs. assign_all_forall axes (product ns) (mask_of vs) body s) goes)))
        where
          p : Evaluation
          p = record { line = line; form = index_form t; over = over; beside = forall_beside body }

          entry : Trail
          entry = reached line s (ForallMask beside axes t)

          those : IsTrail moves (note (ParForallCopy n p) slots) entry
          those = (
            record {
              scalars = λ k lk. holds.scalars k (omega (arith, lk, holds.places));
              event = (
                refl,
                (
                  beside,
                  axes,
                  t,
                  refl,
                  gives,
                  refl,
                  sym holds.places,
                  subst (λ k. IsIndexed k t) (sym holds.places) ok,
                  (refl, subst (λ k. IsAnchorText k beside) (sym holds.places) anchored),
                ),
              );
            },
            tt,
          )

          made : List ℤ → Trail
          made vs = forall_trail true beside axes (product ns) (mask_of vs) body s

          cs : List Instruction
          cs = forall_assignments_code over (Some (where_true n true)) (forall_beside body) body

          to : ℕ
          to = pc + 3 + length cs

          long : to ≡ pc + length (forall_mask_code n line over (forall_beside body) (Some t) ++ cs)
          long = omega arith

          does-at : (rows1 : Storage) → HoldsArrays n table.shapes s rows1 → (y : List ℤ)
              → outcome_of (at_line line
              (at_tuple y (value_by_reads table.shapes y (values_of rows1 (reads_at table.shapes y (elemental_at slots y (index_form t)))) 0
              (elemental_at slots y (index_form t))))) ≡ outcome_of (at_line line (at_tuple y (value y s t)))
          does-at rows1 arrays y =
              let r = elemental_at slots y (index_form t) in
              ap (λ q. outcome_of (at_line line (at_tuple y q)))
              (ap (λ vs. value_by_reads table.shapes y vs 0 r) (sym (append-nil (values_of rows1 (reads_at table.shapes y r))))
              ∙ value-of-reads n table.shapes s rows1 arrays y r [] [] (indexed-names n s slots holds.scalars y t ok)
              ∙ indexed-value n s slots holds.scalars y t ok)

          does : (rows1 : Storage) → HoldsArrays n table.shapes s rows1 → (u : ℕ) → machine.outcome_of (forall_mask_tuples table.shapes p) slots (read rows1) u
              ≡ outcome_of (at_line line (at_tuple (indices_at axes u) (value (indices_at axes u) s t)))
          does rows1 arrays u = does-at rows1 arrays (indices_in over slots u) ∙ ap (λ y. outcome_of (at_line line (at_tuple y (value y s t)))) (indices-are over axes slots gives u)

          asked : (vs : List ℤ) (s1 : State) (slots1 : List ℤ) (rows1 : Storage) → Holds table row_count moves code n many (Some vs) s1 slots1 rows1 → (u : ℕ) (values : List ℤ)
              → is_asked (Some (where_true n true)) (values_of rows1 (mask_reads (Some (where_true n true)) u) ++ values) ≡ mask_of vs u
          asked vs s1 slots1 rows1 h u values = ap (λ r. is_true (slice_index_or r u (pos 0))) (h.copied vs refl)

          goes : (vs : List ℤ) (rows3 : Storage) → Holds table row_count moves code n many (Some vs) s slots rows3 → Goes table row_count moves code n many None leave again (made vs) to b1 slots
              (stands table row_count moves code (pc + 3) slots rows3 s.printed) (assign_all_forall axes (product ns) (mask_of vs) body s)
          goes vs rows3 holds3 =
              let e : pc + 1 + 1 + 1 ≡ pc + 3 = omega arith in
              forget table row_count moves code n many leave again sized (made vs) (Some vs) to b1 slots (stands table row_count moves code (pc + 3) slots rows3 s.printed)
              (assign_all_forall axes (product ns) (mask_of vs) body s)
              (assigns-all all (Some vs) (Some (where_true n true)) beside (mask_of vs) (λ w' e. sym (ap (λ (x : When). x.copy) (same_Some (where_true n true) w' e))) anchored (asked vs) body (pc + 3) slots rows3 s ok_body (subst (λ at. HasAt code at cs) e has.1.1.1) holds3
              gives)

  -- ---- the statement

  pub forall-goes : (sized : (layouts : List Layout) (anchor : Option Anchor) (ms : List ℕ) → size_of (table.copies layouts anchor ms) ≡ space_count ms) (line b pc : ℕ) (controls : List Control) (mask : Option Term)
      (body : List ElementAssignment) (slots : List ℤ) (rows : Storage) (s : State) → AreControls n controls → IsIndexedMask n mask → AreIndexedAssignments n body
      → HasAt code pc (forall_code n line b controls mask body) → n ≤ b → b + subscripts_slots (triplets controls) ≤ many → Holds table row_count moves code n many None s slots rows
      → Goes table row_count moves code n many None leave again (trail (Forall controls mask body) line s) (pc + length (forall_code n line b controls mask body)) b slots (stands table row_count moves code pc slots rows s.printed)
      (run_forall line controls mask body s)
  forall-goes sized line b pc controls mask body slots rows s ok ok_mask ok_body has le few holds =
      goes-at table row_count moves code n many None leave again (trail (Forall controls mask body) line s) to (pc + length (c1 ++ tail)) b slots (stands table row_count moves code pc slots rows s.printed) (run_forall line controls mask body s) long
      (goes-value table row_count moves code n many None leave again (all_controls_trail line s controls) does_trail line pc pc1 to b b1 slots rows s P (all_index_values s controls) does (omega arith) le holds
      (by_header (all_index_values s controls) (subst (Comes table row_count moves code line rows s.printed (all_controls_trail line s controls) pc pc1 b slots (SubsGive b1 over')) (header-is s controls)
      (comes-as table row_count moves code line rows s.printed (selections_trail line s (triplets controls)) (all_controls_trail line s controls) pc pc1 b slots (SubsGive b1 over')
      (selections [] s (triplets controls)) (header-trail line s controls) (subscripts-come table row_count moves code line n s rows s.printed holds.arrays (triplets controls) pc b slots (header-scalar n controls ok)
      (has-front code pc c1 tail has) holds.scalars le (omega (arith, few, holds.size))))))
      (λ slots1 axes e same gives holds1. after_header slots1 axes (gives slots1 (same-refl b1 slots1)) holds1))
    where
      over' : List Sub
      over' = subs_of b (triplets controls)

      b1 : ℕ
      b1 = b + subscripts_slots (triplets controls)

      c1 : List Instruction
      c1 = subscripts_code line b (triplets controls)

      c2 : List Instruction
      c2 = one_to_one_code over' body

      c3 : List Instruction
      c3 = forall_mask_code n line over' (forall_beside body) mask ++ forall_assignments_code over' (option_map (λ t. where_true n true) mask) (forall_beside body) body

      tail : List Instruction
      tail = ForallLimits line over' (map index_flat (all_subscripts mask body)) ∷ (c2 ++ c3)

      pc1 : ℕ
      pc1 = pc + length c1

      to : ℕ
      to = pc1 + 1 + length c2 + length c3

      long : to ≡ pc + length (c1 ++ tail)
      long = omega (arith, length-append c1 tail, length-append c2 c3)

      at_tail : HasAt code pc1 tail
      at_tail = has-back code pc c1 tail has

      P : List ℤ → List Sequence → Type 0
      P slots' axes = SubsGive b1 over' slots' (map Along axes)

      does_trail : List Sequence → Trail
      does_trail axes =
          after_run (if_not_empty (product (index_extents axes)) s (one_step line s (check_limits axes (all_subscripts mask body) s))) (λ s.
          after_run (if_not_empty (product (index_extents axes)) s (check_one_to_one (index_extents axes) body s)) (forall_parts_trail line axes mask body))

      does : List Sequence → Run
      does axes =
          if product (index_extents axes) == 0 then normal s
          else then_do (one_step line s (check_limits axes (all_subscripts mask body) s))
          (λ s. then_do (check_one_to_one (index_extents axes) body s) (after line mask body axes (product (index_extents axes))))

      by_header : (r : Result (List Sequence) Cause) → Comes table row_count moves code line rows s.printed (all_controls_trail line s controls) pc pc1 b slots (SubsGive b1 over') (r >>= (λ axes. Ok (map Along axes)))
          → Comes table row_count moves code line rows s.printed (all_controls_trail line s controls) pc pc1 b slots P r
      by_header (Ok axes) h = h
      by_header (Err c) h = h

      after_header : (slots1 : List ℤ) (axes : List Sequence) → selections_in slots1 over' ≡ map Along axes → Holds table row_count moves code n many None s slots1 rows
          → Goes table row_count moves code n many None leave again (does_trail axes) to b1 slots1 (stands table row_count moves code pc1 slots1 rows s.printed) (does axes)
      after_header slots1 axes gives holds1 =
          subst (Goes table row_count moves code n many None leave again (does_trail axes) to b1 slots1 (stands table row_count moves code pc1 slots1 rows s.printed))
          (sym (forall-is line mask body axes count s))
          (goes-as table row_count moves code n many None leave again (limits_trail line mask body axes (count == 0) (forall_parts_trail line axes mask body) s) (does_trail axes) to b1 slots1
          (stands table row_count moves code pc1 slots1 rows s.printed) (then_do (one_step line s (check test SpaceLimit s)) rest)
          (tested-trail line mask body axes count s (forall_parts_trail line axes mask body))
          (by_test test refl))
        where
          count : ℕ
          count = product (index_extents axes)

          test : Bool
          test = (count == 0) || is_forall_in_limits s axes (all_subscripts mask body)

          rest : State → Run
          rest s = then_do (all_one_to_one (count == 0) (index_extents axes) body s) (after line mask body axes count)

          flats : List Term
          flats = map term_of (map index_flat (all_subscripts mask body))

          limits : forall_limits over' (map index_flat (all_subscripts mask body)) slots1 ≡ (if test then Ok 0 else fails SpaceLimit)
          limits =
              ap (λ ds. unless_empty (extents ds) (is_forall_in_limits (slots_state slots1) (sequences_of ds) flats) SpaceLimit) gives
              ∙ ap (λ ms. unless_empty ms (is_forall_in_limits (slots_state slots1) (sequences_of (map Along axes)) flats) SpaceLimit) (axes-extents axes)
              ∙ ap (λ ps. unless_empty (index_extents axes) (is_forall_in_limits (slots_state slots1) ps flats) SpaceLimit) (header-sequences axes)
              ∙ ap (λ b. unless_empty (index_extents axes) (nat_le (product (index_extents axes)) MAX_TUPLES && list_all is_index_in_limits axes && b) SpaceLimit)
              (limits-are n s slots1 holds1.scalars (all_subscripts mask body) (all-in-forall n mask body ok_mask ok_body))

          counted : test ≡ true → space_count (index_extents axes) ≡ count
          counted is = counted-if count (nat_le count MAX_TUPLES) (by_tests (count == 0) (nat_le count MAX_TUPLES) (list_all is_index_in_limits axes) _ is)
            where
              by_tests : (u v w x : Bool) → (u || (v && w && x)) ≡ true → v ≡ false → u ≡ true
              by_tests true v w x e f = refl
              by_tests false true w x e f = cc
              by_tests false false w x e f = cc

          after_limits : State → Trail
          after_limits s = after_run (all_one_to_one (count == 0) (index_extents axes) body s) (forall_parts_trail line axes mask body)

          tested : Bool → Trail
          tested t = after_run (one_step line s (check t SpaceLimit s)) after_limits

          tests : Goes table row_count moves code n many None leave again [] (pc1 + 1) b1 slots1 (stands table row_count moves code pc1 slots1 rows s.printed) (one_step line s (check test SpaceLimit s))
          tests =
              test-goes None line pc1 b1 (ForallLimits line over' (map index_flat (all_subscripts mask body))) (forall_limits over' (map index_flat (all_subscripts mask body)))
              test SpaceLimit slots1 rows s at_tail.0 refl limits refl holds1

          by_test : (t : Bool) → test ≡ t
              → Goes table row_count moves code n many None leave again (tested test) to b1 slots1 (stands table row_count moves code pc1 slots1 rows s.printed)
              (then_do (one_step line s (check test SpaceLimit s)) rest)
          by_test true is =
              goes-then-kept table row_count moves code n many None leave again [] after_limits (pc1 + 1) to b1 slots1 (stands table row_count moves code pc1 slots1 rows s.printed)
              (one_step line s (check test SpaceLimit s)) rest
              tests
              (λ slots2 rows2 s2 kept2 holds2.
              goes-then-kept table row_count moves code n many None leave again [] (forall_parts_trail line axes mask body) (pc1 + 1 + length c2) to b1 slots2
              (stands table row_count moves code (pc1 + 1) slots2 rows2 s2.printed)
              (all_one_to_one (count == 0) (index_extents axes) body s2) (after line mask body axes count)
              (all-one-to-one line b b1 controls axes le refl None body (pc1 + 1) slots2 rows2 s2 ok_body (has-front code (pc1 + 1) c2 c3 at_tail.1) holds2
              (gives-kept line b b1 controls axes le refl None slots1 slots2 gives kept2))
              (λ slots3 rows3 s3 kept3 holds3.
              after-goes line b b1 controls axes le refl sized body ok_body (counted is) mask (pc1 + 1 + length c2) slots3 rows3 s3 ok_mask (has-back code (pc1 + 1) c2 c3 at_tail.1)
              holds3 (gives-kept line b b1 controls axes le refl None slots2 slots3 (gives-kept line b b1 controls axes le refl None slots1 slots2 gives kept2) kept3)))
          by_test false is =
              subst (λ t. Goes table row_count moves code n many None leave again (tested t) to b1 slots1 (stands table row_count moves code pc1 slots1 rows s.printed)
              (then_do (one_step line s (check t SpaceLimit s)) rest))
              (sym is)
              (subst (λ t. Goes table row_count moves code n many None leave again [] (pc1 + 1) b1 slots1 (stands table row_count moves code pc1 slots1 rows s.printed)
              (one_step line s (check t SpaceLimit s)))
              is tests)
