-- The code of an IF and of the control of a DO.
use Rattle.node_code.specs.Instructions.{NewMapping, Instruction, Set, Trips, Jump, JumpIfZero}
use Rattle.code_meaning.specs.Instructions.{go_if, begin_trips, meaning_of, ArrayTable}
use Rattle.std.proofs.Common.{◌≡◌, ℕ, zero, suc, ◌+◌, ◌<◌, ◌≤◌, ◌^◌, List, [], ◌∷◌, ◌++◌, length, ℤ, pos, FitsSigned, w64, Bool, true, false, if◌then◌else◌, Option, Some, Result, Ok, refl, sym, ap, ◌∙◌, subst, arith, length-append, slice_get, slice_set, get_or-set_same, get_or-set_other}
use Rattle.array_meaning.specs.Execution.{condition, iterate}
use Rattle.array_meaning.specs.Expressions.{value}
use Rattle.array_meaning.specs.Faults.{Cause, fails}
use Rattle.array_meaning.specs.Runs.{Completion, Normal, Exited, Cycled, Stopped, Run, normal, with_value}
use Rattle.array_meaning.specs.Sections.{sequence, value_count}
use Rattle.array_meaning.specs.State.{State, set_scalar}
use Rattle.array_meaning.specs.Terms.{Term}
use Rattle.array_meaning.specs.declared.faults.FaultKind.TheVariants.{ZeroStride}
use Rattle.array_meaning.specs.declared.sections.Sequence.{Sequence}
use Rattle.lowered_nests.proofs.Counting.{count-small}
use Rattle.lowered_expressions.proofs.Goes.{Holds, kept-refl, Goes, Flows, goes-on, goes-at, goes-value, value-bind, set-reaches, jump-reaches, test-reaches, holds-slot, holds-scalar, goes-as}
use Rattle.lowering.proofs.Loops.{leave_at, inside, after, Body, ends-loop, from-inside, from-again}
use Rattle.lowering.proofs.Parts.{term-comes}
use Rattle.statement_trail.specs.Trail.{Trail, after_value, iterate_trail, value_trail}
use Rattle.lowered_expressions.specs.Passed.{passed, IsTrail}
use Rattle.lowering.proofs.Wheres.{after-made}
use Rattle.lowered_expressions.proofs.Reach.{still, reaches-last, Idle, HasAt, has-front, has-back, has-drop, same-refl, Reaches, reaches-on, stands, one, Place}
use Rattle.lowered_expressions.proofs.Terms.{Gives}
use Rattle.program_code.specs.ExpressionCode.{slots_of, flat_of, code_of}
use Rattle.lowered_expressions.specs.WellFormed.{IsScalar}
use Rattle.program_code.specs.StatementCode.{arm_code, loop_code}
use Rattle.machine_steps.specs.Instr.{Running}
use Rattle.machine_steps.specs.Machine.{steps}
use Rattle.storage.specs.Storage.{Storage}
use Rattle.code_meaning.specs.Flat.{slot}
use Rattle.node_code.specs.Flat.{Slot}
use Rattle.code_meaning.specs.Parallel.{at_line}
use Rattle.op_tables.specs.Operators.{wrapped, is_zero, is_true}
use Rattle.array_meaning.specs.Runs as runs
use Rattle.fitting_states.specs.FittingStates.{StateFits}
use Rattle.fitting_states.proofs.Runs.{KeepsFits}

module _ (table : ArrayTable) (row_count : ℕ) (moves : ℕ → List NewMapping) (code : List Instruction) (n many : ℕ) (copy : Option (List ℤ)) (leave again : ℕ) where
  -- a jump after what was made
  pub goes-jump : (T : Trail) (mid to b : ℕ) (slots : List ℤ) (m : Place row_count) (r : Run) → slice_get code mid ≡ Some (Jump to) → Goes table row_count moves code n many copy leave again T mid b slots m r
      → Goes table row_count moves code n many copy leave again T to b slots m r
  goes-jump T mid to b slots m r h g = by_flow r.completion g
    where
      by_flow : (flow : Completion) → Flows table row_count moves code n many copy leave again T mid b slots m r.state flow → Flows table row_count moves code n many copy leave again T to b slots m r.state flow
      by_flow Normal g = (
        g.0,
        g.1,
        reaches-last table row_count moves code T m (stands table row_count moves code mid g.0 g.1 r.state.printed) (stands table row_count moves code to g.0 g.1 r.state.printed) g.2
            (jump-reaches table row_count moves code n many copy mid to g.0 g.1 r.state.printed h),
        g.3,
        g.4,
      )
      by_flow Exited g = g
      by_flow Cycled g = g
      by_flow Stopped g = g
      by_flow (runs.Faulted f) g = g

  abbrev pub Makes : (ℕ → List Instruction) → ℕ → ℕ → (State → Run) → (State → Trail) → State → Type 0
  Makes part b pc does dtrail s = (slots : List ℤ) (rows : Storage) → HasAt code pc (part pc) → Holds table row_count moves code n many copy s slots rows
      → Goes table row_count moves code n many copy leave again (dtrail s) (pc + length (part pc)) b slots (stands table row_count moves code pc slots rows s.printed) (does s)

  pub arm-goes : (line b pc : ℕ) (cond : Term) (part rest : ℕ → List Instruction) (does others : State → Run) (dtrail otrail : State → Trail) (slots : List ℤ) (rows : Storage) (s : State) → IsScalar n cond
      → HasAt code pc (arm_code line pc b cond part rest) → n ≤ b → b + (slots_of cond + 1) ≤ many
      → Holds table row_count moves code n many copy s slots rows → ((pc : ℕ) → Makes part b pc does dtrail s) → ((pc : ℕ) → Makes rest b pc others otrail s)
      → Goes table row_count moves code n many copy leave again (value_trail line s cond ++ after_value (condition s cond) (λ holds. (if holds then dtrail else otrail) s)) (pc + length (arm_code line pc b cond part rest)) b slots (stands table row_count moves code pc slots rows s.printed)
      (with_value line s (condition s cond) (λ holds. (if holds then does else others) s))
  arm-goes line b pc cond part rest does others dtrail otrail slots rows s ok has le few holds makes makes_rest =
      let c = code_of line b cond in
      let x : ℕ = b + slots_of cond in
      let pc1 : ℕ = pc + length c in
      let inner : ℕ = pc1 + 2 in
      let next : ℕ = inner + length (part inner) + 1 in
      let to : ℕ = next + length (rest next) in
      let tail = part inner ++ Jump to ∷ rest next in
      let set = Set line x (flat_of b cond) in
      let go = JumpIfZero next x in
      let all = set ∷ go ∷ tail in
      let long : to ≡ pc + length (c ++ all) = omega (arith, length-append c all, length-append (part inner) (Jump to ∷ rest next)) in
      let h1 : HasAt code pc1 all = has-back code pc c all has in
      let h2 : HasAt code (pc1 + 2) tail = has-drop code 2 pc1 all h1 in
      let h3 : HasAt code (inner + length (part inner)) (Jump to ∷ rest next) = has-back code inner (part inner) (Jump to ∷ rest next) h2 in
      let e1 : pc1 + 1 + 1 ≡ inner = omega arith in
      goes-at table row_count moves code n many copy leave again (value_trail line s cond ++ after_value (condition s cond) (λ holds. (if holds then dtrail else otrail) s)) to (pc + length (c ++ all)) b slots (stands table row_count moves code pc slots rows s.printed)
      (with_value line s (condition s cond) (λ holds. (if holds then does else others) s)) long
      (goes-as table row_count moves code n many copy leave again (value_trail line s cond ++ after_value (value [] s cond) (λ v. (if is_true v then dtrail else otrail) s)) (value_trail line s cond ++ after_value (condition s cond) (λ holds. (if holds then dtrail else otrail) s)) to b slots (stands table row_count moves code pc slots rows s.printed)
      (with_value line s (condition s cond) (λ holds. (if holds then does else others) s))
      (ap (λ T. value_trail line s cond ++ T) (sym (after-made (value [] s cond) is_true (λ holds. (if holds then dtrail else otrail) s))))
      (subst (Goes table row_count moves code n many copy leave again (value_trail line s cond ++ after_value (value [] s cond) (λ v. (if is_true v then dtrail else otrail) s)) to b slots (stands table row_count moves code pc slots rows s.printed))
      (sym (value-bind line s (value [] s cond) (λ v. Ok (is_true v)) (λ holds. (if holds then does else others) s)))
      (goes-value table row_count moves code n many copy leave again (value_trail line s cond) (λ v. (if is_true v then dtrail else otrail) s) line pc pc1 to b b slots rows s (Gives x (flat_of b cond)) (value [] s cond) (λ v. (if is_true v then does else others) s)
      (omega arith) le holds
      (term-comes table row_count moves code line n s rows s.printed holds.arrays cond pc b slots ok (has-front code pc c all has) holds.scalars le (omega (arith, few, holds.size)))
      (λ slots1 v e same gives holds1.
      let slots2 : List ℤ = slice_set slots1 x v in
      let holds2 : Holds table row_count moves code n many copy s slots2 rows = holds-slot table row_count moves code n many copy s slots1 rows x v (omega (arith, le)) holds1 in
      let r1 = set-reaches table row_count moves code n many copy line pc1 x slots1 rows s.printed (flat_of b cond) v h1.0 (gives slots1 (same-refl x slots1)) in
      let here : slot slots2 x ≡ v = get_or-set_same slots1 x v (pos 0) (omega (arith, few, holds1.size)) in
      goes-on table row_count moves code n many copy leave again [] ((if is_true v then dtrail else otrail) s) to b b slots1 slots2 (stands table row_count moves code pc1 slots1 rows s.printed) (stands table row_count moves code (pc1 + 1) slots2 rows s.printed)
      ((if is_true v then does else others) s) (omega arith) r1 (λ j from lt. sym (get_or-set_other slots1 x j v (pos 0) (λ e. absurd (omega (arith, e, lt)))))
      (by_test slots2 to next inner x (is_true v) e1 (λ t et. test-reaches table row_count moves code n many copy (pc1 + 1) next x slots2 rows s.printed t h1.1.0 (ap is_true here ∙ et)) refl
      (goes-jump (dtrail s) (inner + length (part inner)) to b slots2 (stands table row_count moves code inner slots2 rows s.printed) (does s) h3.0
      (makes inner slots2 rows (has-front code inner (part inner) (Jump to ∷ rest next) h2) holds2))
      (makes_rest next slots2 rows h3.1 holds2))))))
    where
      by_test : (slots2 : List ℤ) (to next inner x : ℕ) (t : Bool) → pc + length (code_of line b cond) + 1 + 1 ≡ inner
          → ((u : Bool) → t ≡ u → Reaches table row_count moves code [] (stands table row_count moves code (pc + length (code_of line b cond) + 1) slots2 rows s.printed)
          (λ i. record (stands table row_count moves code (pc + length (code_of line b cond) + 1) slots2 rows s.printed i)
          { control = go_if u next (record { at = pc + length (code_of line b cond) + 1; slots = slots2; status = Running }) }))
          → t ≡ t → Goes table row_count moves code n many copy leave again (dtrail s) to b slots2 (stands table row_count moves code inner slots2 rows s.printed) (does s)
          → Goes table row_count moves code n many copy leave again (otrail s) to b slots2 (stands table row_count moves code next slots2 rows s.printed) (others s)
          → Goes table row_count moves code n many copy leave again ((if t then dtrail else otrail) s) to b slots2 (stands table row_count moves code (pc + length (code_of line b cond) + 1) slots2 rows s.printed) ((if t then does else others) s)
      by_test slots2 to next inner x true e reach same yes' no' =
          goes-on table row_count moves code n many copy leave again [] (dtrail s) to b b slots2 slots2 (stands table row_count moves code (pc + length (code_of line b cond) + 1) slots2 rows s.printed)
          (stands table row_count moves code inner slots2 rows s.printed) (does s) (omega arith)
          (subst (λ p. Reaches table row_count moves code [] (stands table row_count moves code (pc + length (code_of line b cond) + 1) slots2 rows s.printed) (stands table row_count moves code p slots2 rows s.printed)) e
          (reach true refl)) (kept-refl table row_count moves code n many copy b slots2) yes'
      by_test slots2 to next inner x false e reach same yes' no' =
          goes-on table row_count moves code n many copy leave again [] (otrail s) to b b slots2 slots2 (stands table row_count moves code (pc + length (code_of line b cond) + 1) slots2 rows s.printed)
          (stands table row_count moves code next slots2 rows s.printed) (others s) (omega arith) (reach false refl) (kept-refl table row_count moves code n many copy b slots2) no'

  -- a loop from its head on, when its numbers stand in their slots
  pub enters : (line pc v x : ℕ) (bcode : ℕ → ℕ → ℕ → List Instruction) (brun : State → Run) (btrail : State → Trail) (slots : List ℤ) (rows : Storage) (s : State) (a z d : ℤ)
      → HasAt code pc (loop_code line pc v x bcode) → x < n → n ≤ v → v + 4 ≤ many → Body table row_count moves code n many copy line pc v x bcode brun btrail
      → KeepsFits brun → StateFits s → FitsSigned w64 a → Holds table row_count moves code n many copy s slots rows → slot slots v ≡ a → slot slots (v + 1) ≡ z → slot slots (v + 2) ≡ d
      → Goes table row_count moves code n many copy leave again (after_value (sequence a z d) (λ p. iterate_trail p.count x p.first p.step brun btrail s)) (after table row_count moves code n many copy line pc v x bcode brun btrail) v slots (stands table row_count moves code pc slots rows s.printed)
      (with_value line s (sequence a z d) (λ p. iterate p.count x p.first p.step brun s))
  enters line pc v x bcode brun btrail slots rows s a z d has lx lv few makes stays fits fit holds e1 e2 e3 =
      goes-on table row_count moves code n many copy leave again [] (after_value (sequence a z d) (λ p. iterate_trail p.count x p.first p.step brun btrail s)) to v v slots slots1 (stands table row_count moves code pc slots rows s.printed) m1
      (with_value line s (sequence a z d) (λ p. iterate p.count x p.first p.step brun s)) (omega arith) r1 (λ j from lt. sym (other j from))
      (by_span (is_zero d) (value_count (wrapped a) (wrapped z) (wrapped d)) (count-small a z d)
      (λ i. one table row_count moves code (pc + 1) slots1 rows s.printed (Trips line v (v + 1) (v + 2) (v + 3) leave1) has.1.0 i
      ∙ rw (other v lv, other (v + 1) (omega (arith, lv)), other (v + 2) (omega (arith, lv)), e1, e2, e3) refl))
    where
      to : ℕ
      to = after table row_count moves code n many copy line pc v x bcode brun btrail

      leave1 : ℕ
      leave1 = leave_at table row_count moves code n many copy line pc v x bcode brun btrail

      slots1 : List ℤ
      slots1 = slice_set slots x a

      m1 : Place row_count
      m1 = stands table row_count moves code (pc + 1) slots1 rows s.printed

      r1 : Reaches table row_count moves code [] (stands table row_count moves code pc slots rows s.printed) m1
      r1 = set-reaches table row_count moves code n many copy line pc x slots rows s.printed (Slot v) a has.0 (ap Ok e1)

      other : (j : ℕ) → n ≤ j → slot slots1 j ≡ slot slots j
      other j from = get_or-set_other slots x j a (pos 0) (λ e. absurd (omega (arith, e, from, lx)))

      holds1 : Holds table row_count moves code n many copy (set_scalar s x a) slots1 rows
      holds1 = holds-scalar table row_count moves code n many copy s slots rows x a lx (omega (arith, few, lv)) holds

      result : Bool → ℕ → Result Sequence Cause
      result t k = if t then fails ZeroStride else Ok record { first = a; step = d; count = k }

      trips : (i : Idle row_count) → IsTrail moves (passed table 1 (m1 i)) []
      trips = still table row_count moves code (pc + 1) slots1 rows s.printed (Trips line v (v + 1) (v + 2) (v + 3) leave1) has.1.0 refl

      by_span : (t : Bool) (k : ℕ) → k ≤ 2 ^ 64
          → ((i : Idle row_count) → steps (meaning_of table) 1 (m1 i)
          ≡ record (m1 i) { control = begin_trips (v + 3) leave1 (at_line line (result t k)) (record { at = pc + 1; slots = slots1; status = Running }) })
          → Goes table row_count moves code n many copy leave again (after_value (result t k) (λ p. iterate_trail p.count x p.first p.step brun btrail s)) to v slots1 m1 (with_value line s (result t k) (λ p. iterate p.count x p.first p.step brun s))
      by_span true k small g = λ i. (_, (1, g i, trips i), refl, refl, refl)
      by_span false zero small g =
          goes-on table row_count moves code n many copy leave again [] [] to v v slots1 slots1 m1 (stands table row_count moves code leave1 slots1 rows s.printed) (normal (set_scalar s x a)) (omega arith)
          (λ i. (1, i, g i, trips i)) (kept-refl table row_count moves code n many copy v slots1)
          (ends-loop table row_count moves code n many copy line pc v x bcode brun btrail leave again has lx lv few makes stays slots1 rows (set_scalar s x a) holds1)
      by_span false (suc k) small g =
          let left : ℤ = wrapped (pos k) in
          let slots2 : List ℤ = slice_set slots1 (v + 3) left in
          let e : pc + 1 + 1 ≡ pc + 2 = omega arith in
          let in1 : ℕ = inside table row_count moves code n many copy line pc v x bcode brun btrail in
          let g2 : Reaches table row_count moves code [] m1 (stands table row_count moves code (pc + 2) slots2 rows s.printed) = subst (λ p. Reaches table row_count moves code [] m1 (stands table row_count moves code p slots2 rows s.printed)) e
          (λ i. (1, i, g i, trips i)) in
          goes-on table row_count moves code n many copy leave again [] (iterate_trail (suc k) x a d brun btrail s) to v v slots1 slots2 m1 (stands table row_count moves code in1 slots2 rows s.printed) (iterate (suc k) x a d brun s) (omega arith)
          (reaches-on table row_count moves code m1 (stands table row_count moves code (pc + 2) slots2 rows s.printed) (stands table row_count moves code in1 slots2 rows s.printed) g2
          (jump-reaches table row_count moves code n many copy (pc + 2) in1 slots2 rows s.printed (has-drop code 2 pc (loop_code line pc v x bcode) has).0))
          (λ j from lt. sym (get_or-set_other slots1 (v + 3) j left (pos 0) (λ e. absurd (omega (arith, e, lt)))))
          (from-inside table row_count moves code n many copy line pc v x bcode brun btrail leave again has lx lv few makes stays k
          (from-again table row_count moves code n many copy line pc v x bcode brun btrail leave again has lx lv few makes stays k (omega (arith, small))) s slots2 rows a d fits fit
          (holds-slot table row_count moves code n many copy (set_scalar s x a) slots1 rows (v + 3) left (omega (arith, lv)) holds1) (
            get_or-set_other slots1 (v + 3) v left (pos 0) (λ e. absurd (omega (arith, e))) ∙ other v lv ∙ e1,
            get_or-set_other slots1 (v + 3) (v + 2) left (pos 0) (λ e. absurd (omega (arith, e))) ∙ other (v + 2) (omega (arith, lv)) ∙ e3,
            get_or-set_same slots1 (v + 3) left (pos 0) (omega (arith, few, holds1.size)),
          ))
