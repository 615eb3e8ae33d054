-- The code of a loop makes its turns.
use Rattle.node_code.specs.Instructions.{NewMapping, Instruction, Jump}
use Rattle.code_meaning.specs.Instructions.{ArrayTable}
use Rattle.std.proofs.Common.{◌≡◌, ℕ, zero, suc, ◌+◌, ◌<◌, ◌≤◌, ◌^◌, List, [], ◌∷◌, length, ℤ, pos, ◌+ℤ◌, FitsSigned, w64, true, false, Option, Some, Ok, refl, sym, ap, ◌∙◌, subst, arith, slice_get, slice_set, length-set, get_or-set_same, get_or-set_other, ◌++◌, append-nil}
use Rattle.array_meaning.specs.Execution.{iterate, after_iteration}
use Rattle.array_meaning.specs.Runs.{Completion, Normal, Exited, Cycled, Stopped, Run, normal}
use Rattle.array_meaning.specs.State.{State, set_scalar}
use Rattle.lowered_expressions.proofs.Goes.{Holds, Kept, kept-refl, Goes, goes-on, Flows, set-reaches, jump-reaches, test-reaches, holds-slot, holds-scalar}
use Rattle.statement_trail.specs.Trail as passed
use Rattle.statement_trail.specs.Trail.{Trail, iterate_trail}
use Rattle.lowered_expressions.proofs.Reach.{reaches-last, HasAt, has-back, has-drop, Reaches, reaches-on, stands, Place}
use Rattle.lowered_nests.proofs.Counting.{left-true, left-less, none-left}
use Rattle.program_code.specs.StatementCode.{loop_code}
use Rattle.storage.specs.Storage.{Storage}
use Rattle.code_meaning.specs.Flat.{slot}
use Rattle.node_code.specs.Flat.{Int, Slot, Operated, NoFlat, AndFlat}
use Rattle.op_tables.specs.Operators.{wrapped, is_true}
use Rattle.array_meaning.specs.Runs as runs
use Rattle.fitting_states.specs.FittingStates.{StateFits}
use Rattle.fitting_states.proofs.OperatorRanges.{wraps_fit}
use Rattle.fitting_states.proofs.Storing.{set_scalar_fits}
use Rattle.fitting_states.proofs.Runs.{KeepsFits}
use Rattle.op_tables.specs.declared.op.Op.TheVariants as op

module _ (table : ArrayTable) (row_count : ℕ) (moves : ℕ → List NewMapping) (code : List Instruction) (n many : ℕ) (copy : Option (List ℤ)) (line pc v x : ℕ) (bcode : ℕ → ℕ → ℕ → List Instruction) (brun : State → Run) (btrail : State → Trail) where
  abbrev pub leave_at : ℕ
  leave_at = pc + 3

  abbrev pub again_at : ℕ
  again_at = pc + 4

  abbrev pub inside : ℕ
  inside = pc + 8

  abbrev pub body : List Instruction
  body = bcode inside leave_at again_at

  abbrev pub after : ℕ
  after = inside + length body + 1

  abbrev pub Body : Type 0
  Body = (s : State) (slots : List ℤ) (rows : Storage) → StateFits s → Holds table row_count moves code n many copy s slots rows → Goes table row_count moves code n many copy leave_at again_at (btrail s) (inside + length body)
      (v + 4) slots (stands table row_count moves code inside slots rows s.printed) (brun s)

  module _ (leave again : ℕ) (has : HasAt code pc (loop_code line pc v x bcode)) (lx : x < n) (lv : n ≤ v) (few : v + 4 ≤ many) (makes : Body) (stays : KeepsFits brun) where
    -- the loop's numbers stand in their slots
    abbrev Numbers : List ℤ → ℤ → ℤ → ℕ → Type 0
    Numbers slots index step k = (slot slots v ≡ index) × (slot slots (v + 2) ≡ step) × (slot slots (v + 3) ≡ wrapped (pos k))

    numbers-kept : (slots slots' : List ℤ) (index step : ℤ) (k : ℕ) → Numbers slots index step k → Kept table row_count moves code n many copy (v + 4) slots slots' → Numbers slots' index step k
    numbers-kept slots slots' index step k h kept =
        (sym (kept v lv (omega arith)) ∙ h.0, sym (kept (v + 2) (omega (arith, lv)) (omega arith)) ∙ h.1, sym (kept (v + 3) (omega (arith, lv)) (omega arith)) ∙ h.2)

    -- the instructions after the head
    at-leave : slice_get code leave_at ≡ Some (Jump after)
    at-leave = (has-drop code 3 pc (loop_code line pc v x bcode) has).0

    pub ends-loop : (slots : List ℤ) (rows : Storage) (s : State) → Holds table row_count moves code n many copy s slots rows → Goes table row_count moves code n many copy leave again [] after v slots
        (stands table row_count moves code leave_at slots rows s.printed) (normal s)
    ends-loop slots rows s holds =
        (slots, rows, jump-reaches table row_count moves code n many copy leave_at after slots rows s.printed at-leave, kept-refl table row_count moves code n many copy v slots, holds)

    -- what is left of the loop from the place where CYCLE goes
    abbrev FromAgain : ℕ → Type 0
    FromAgain k = (s : State) (slots : List ℤ) (rows : Storage) (index step : ℤ) → StateFits s → Holds table row_count moves code n many copy s slots rows → Numbers slots index step k
        → Goes table row_count moves code n many copy leave again (iterate_trail k x (wrapped (index +ℤ step)) step brun btrail s) after v slots (stands table row_count moves code again_at slots rows s.printed) (iterate k x (wrapped (index +ℤ step)) step brun s)

    -- and from the body, where the index is set
    pub from-inside : (k : ℕ) → FromAgain k → (s : State) (slots : List ℤ) (rows : Storage) (index step : ℤ) → StateFits s → FitsSigned w64 index → Holds table row_count moves code n many copy (set_scalar s x index) slots rows
        → Numbers slots index step k
        → Goes table row_count moves code n many copy leave again (iterate_trail (suc k) x index step brun btrail s) after v slots (stands table row_count moves code inside slots rows s.printed) (iterate (suc k) x index step brun s)
    from-inside k next s slots rows index step fits fit holds numbers =
        by_flow (brun (set_scalar s x index)).completion (makes (set_scalar s x index) slots rows (set_scalar_fits s x index fits fit) holds)
      where
        m : Place row_count
        m = stands table row_count moves code inside slots rows s.printed

        s' : State
        s' = (brun (set_scalar s x index)).state

        on : (slots1 : List ℤ) (rows1 : Storage) → Reaches table row_count moves code (btrail (set_scalar s x index)) m (stands table row_count moves code again_at slots1 rows1 s'.printed) → Kept table row_count moves code n many copy (v + 4) slots slots1
            → Holds table row_count moves code n many copy s' slots1 rows1
            → Goes table row_count moves code n many copy leave again (btrail (set_scalar s x index) ++ iterate_trail k x (wrapped (index +ℤ step)) step brun btrail s') after v slots m (iterate k x (wrapped (index +ℤ step)) step brun s')
        on slots1 rows1 reach kept holds1 =
            goes-on table row_count moves code n many copy leave again (btrail (set_scalar s x index)) (iterate_trail k x (wrapped (index +ℤ step)) step brun btrail s') after v v slots slots1 m (stands table row_count moves code again_at slots1 rows1 s'.printed)
            (iterate k x (wrapped (index +ℤ step)) step brun s') (omega arith) reach (λ j from lt. kept j from (omega (arith, lt)))
            (next s' slots1 rows1 index step (stays (set_scalar s x index) (set_scalar_fits s x index fits fit)) holds1 (numbers-kept slots slots1 index step k numbers kept))

        back : HasAt code (inside + length body) (Jump again_at ∷ [])
        back = has-back code inside body (Jump again_at ∷ []) (has-drop code 8 pc (loop_code line pc v x bcode) has)

        ended : (flow : Completion) → Flows table row_count moves code n many copy leave again (btrail (set_scalar s x index)) after v slots m s' flow → Flows table row_count moves code n many copy leave again (btrail (set_scalar s x index) ++ []) after v slots m s' flow
        ended flow h = subst (λ V. Flows table row_count moves code n many copy leave again V after v slots m s' flow) (sym (append-nil (btrail (set_scalar s x index)))) h

        by_flow : (flow : Completion) → Flows table row_count moves code n many copy leave_at again_at (btrail (set_scalar s x index)) (inside + length body) (v + 4) slots m s' flow
            → Goes table row_count moves code n many copy leave again
            (btrail (set_scalar s x index) ++ passed.after_iteration (record { state = s'; completion = flow }) (iterate_trail k x (wrapped (index +ℤ step)) step brun btrail)) after v slots m (after_iteration flow s' (iterate k x (wrapped (index +ℤ step)) step brun))
        by_flow Normal h = on h.0 h.1 (reaches-last table row_count moves code (btrail (set_scalar s x index)) m (stands table row_count moves code (inside + length body) h.0 h.1 s'.printed) (stands table row_count moves code again_at h.0 h.1 s'.printed) h.2
            (jump-reaches table row_count moves code n many copy (inside + length body) again_at h.0 h.1 s'.printed back.0)) h.3 h.4
        by_flow Cycled h = on h.0 h.1 h.2 h.3 h.4
        by_flow Exited h =
            goes-on table row_count moves code n many copy leave again (btrail (set_scalar s x index)) [] after v v slots h.0 m (stands table row_count moves code leave_at h.0 h.1 s'.printed) (normal s') (omega arith) h.2
            (λ j from lt. h.3 j from (omega (arith, lt))) (ends-loop h.0 h.1 s' h.4)
        by_flow Stopped h = ended Stopped h
        by_flow (runs.Faulted f) h = ended (runs.Faulted f) h

    -- the index grows, and stands in its scalar
    advanced : (s : State) (slots : List ℤ) (rows : Storage) (index step : ℤ) (k : ℕ) → Holds table row_count moves code n many copy s slots rows → Numbers slots index step k
        → (slots' : List ℤ) × Reaches table row_count moves code [] (stands table row_count moves code again_at slots rows s.printed) (stands table row_count moves code (pc + 6) slots' rows s.printed)
        × Kept table row_count moves code n many copy v slots slots' × Holds table row_count moves code n many copy (set_scalar s x (wrapped (index +ℤ step))) slots' rows
        × Numbers slots' (wrapped (index +ℤ step)) step k
    advanced s slots rows index step k holds numbers =
        let next : ℤ = wrapped (index +ℤ step) in
        let slots1 : List ℤ = slice_set slots v next in
        let slots2 : List ℤ = slice_set slots1 x next in
        let long : length slots1 ≡ many = length-set slots v next ∙ holds.size in
        let r1 = set-reaches table row_count moves code n many copy line again_at v slots rows s.printed (Operated op.Add (AndFlat (Slot v) (AndFlat (Slot (v + 2)) NoFlat))) next
        (has-drop code 4 pc (loop_code line pc v x bcode) has).0 (rw (numbers.0, numbers.1) refl) in
        let here : slot slots1 v ≡ next = get_or-set_same slots v next (pos 0) (omega (arith, few, holds.size)) in
        let r2 = set-reaches table row_count moves code n many copy line (pc + 5) x slots1 rows s.printed (Slot v) next (has-drop code 5 pc (loop_code line pc v x bcode) has).0 (ap Ok here) in
        let other : (j : ℕ) → n ≤ j → slot slots2 j ≡ slot slots1 j = λ j from. get_or-set_other slots1 x j next (pos 0) (λ e. absurd (omega (arith, e, from, lx))) in (
          slots2,
          reaches-on table row_count moves code (stands table row_count moves code again_at slots rows s.printed) (stands table row_count moves code (pc + 5) slots1 rows s.printed)
              (stands table row_count moves code (pc + 6) slots2 rows s.printed) (moved r1) (moved2 r2),
          (λ j from lt. sym (get_or-set_other slots v j next (pos 0) (λ e. absurd (omega (arith, e, lt)))) ∙ sym (other j from)),
          holds-scalar table row_count moves code n many copy s slots1 rows x next lx (omega (arith, few, lv)) (holds-slot table row_count moves code n many copy s slots rows v next lv holds),
          (
            other v lv ∙ here,
            other (v + 2) (omega (arith, lv)) ∙ get_or-set_other slots v (v + 2) next (pos 0) (λ e. absurd (omega (arith, e))) ∙ numbers.1,
            other (v + 3) (omega (arith, lv)) ∙ get_or-set_other slots v (v + 3) next (pos 0) (λ e. absurd (omega (arith, e))) ∙ numbers.2,
          ),
        )
      where
        moved : {m : Place row_count} {slots : List ℤ} → Reaches table row_count moves code [] m (stands table row_count moves code (pc + 4 + 1) slots rows s.printed)
            → Reaches table row_count moves code [] m (stands table row_count moves code (pc + 5) slots rows s.printed)
        moved {m} {slots} r = let e : pc + 4 + 1 ≡ pc + 5 = omega arith in subst (λ p. Reaches table row_count moves code [] m (stands table row_count moves code p slots rows s.printed)) e r

        moved2 : {m : Place row_count} {slots : List ℤ} → Reaches table row_count moves code [] m (stands table row_count moves code (pc + 5 + 1) slots rows s.printed)
            → Reaches table row_count moves code [] m (stands table row_count moves code (pc + 6) slots rows s.printed)
        moved2 {m} {slots} r = let e : pc + 5 + 1 ≡ pc + 6 = omega arith in subst (λ p. Reaches table row_count moves code [] m (stands table row_count moves code p slots rows s.printed)) e r

    pub from-again : (k : ℕ) → k < 2 ^ 64 → FromAgain k
    from-again zero small s slots rows index step fits holds numbers =
        let a = advanced s slots rows index step 0 holds numbers in
        let next : ℤ = wrapped (index +ℤ step) in
        goes-on table row_count moves code n many copy leave again [] [] after v v slots a.0 (stands table row_count moves code again_at slots rows s.printed) (stands table row_count moves code leave_at a.0 rows s.printed)
        (normal (set_scalar s x next)) (omega arith)
        (reaches-on table row_count moves code (stands table row_count moves code again_at slots rows s.printed) (stands table row_count moves code (pc + 6) a.0 rows s.printed) (stands table row_count moves code leave_at a.0 rows s.printed)
        a.1
        (test-reaches table row_count moves code n many copy (pc + 6) leave_at (v + 3) a.0 rows s.printed false (has-drop code 6 pc (loop_code line pc v x bcode) has).0
        (ap is_true a.4.2 ∙ none-left)))
        a.2 (ends-loop a.0 rows (set_scalar s x next) a.3)
    from-again (suc k) small s slots rows index step fits holds numbers =
        let a = advanced s slots rows index step (suc k) holds numbers in
        let next : ℤ = wrapped (index +ℤ step) in
        let left : ℤ = wrapped (pos k) in
        let r1 = test-reaches table row_count moves code n many copy (pc + 6) leave_at (v + 3) a.0 rows s.printed true (has-drop code 6 pc (loop_code line pc v x bcode) has).0
        (ap is_true a.4.2 ∙ left-true k small) in
        let r2 = set-reaches table row_count moves code n many copy line (pc + 7) (v + 3) a.0 rows s.printed (Operated op.Sub (AndFlat (Slot (v + 3)) (AndFlat (Int (pos 1)) NoFlat))) left
        (has-drop code 7 pc (loop_code line pc v x bcode) has).0 (rw (a.4.2) (ap Ok (left-less k))) in
        let e7 : pc + 6 + 1 ≡ pc + 7 = omega arith in
        let e8 : pc + 7 + 1 ≡ inside = omega arith in
        let slots2 : List ℤ = slice_set a.0 (v + 3) left in
        goes-on table row_count moves code n many copy leave again [] (iterate_trail (suc k) x next step brun btrail s) after v v slots slots2 (stands table row_count moves code again_at slots rows s.printed) (stands table row_count moves code inside slots2 rows s.printed)
        (iterate (suc k) x next step brun s) (omega arith)
        (reaches-on table row_count moves code (stands table row_count moves code again_at slots rows s.printed) (stands table row_count moves code (pc + 6) a.0 rows s.printed) (stands table row_count moves code inside slots2 rows s.printed)
        a.1
        (reaches-on table row_count moves code (stands table row_count moves code (pc + 6) a.0 rows s.printed) (stands table row_count moves code (pc + 7) a.0 rows s.printed) (stands table row_count moves code inside slots2 rows s.printed)
        (subst (λ p. Reaches table row_count moves code [] (stands table row_count moves code (pc + 6) a.0 rows s.printed) (stands table row_count moves code p a.0 rows s.printed)) e7 r1)
        (subst (λ p. Reaches table row_count moves code [] (stands table row_count moves code (pc + 7) a.0 rows s.printed) (stands table row_count moves code p slots2 rows s.printed)) e8 r2)))
        (λ j from lt. a.2 j from lt ∙ sym (get_or-set_other a.0 (v + 3) j left (pos 0) (λ e. absurd (omega (arith, e, lt)))))
        (from-inside k (from-again k (omega (arith, small))) s slots2 rows next step fits (wraps_fit (index +ℤ step))
        (holds-slot table row_count moves code n many copy (set_scalar s x next) a.0 rows (v + 3) left (omega (arith, lv)) a.3) (
          get_or-set_other a.0 (v + 3) v left (pos 0) (λ e. absurd (omega (arith, e))) ∙ a.4.0,
          get_or-set_other a.0 (v + 3) (v + 2) left (pos 0) (λ e. absurd (omega (arith, e))) ∙ a.4.1,
          get_or-set_same a.0 (v + 3) left (pos 0) (omega (arith, few, a.3.size)),
        ))
