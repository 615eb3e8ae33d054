-- The code of a block does what the block means.
use Rattle.std.proofs.Common.{◌≡◌, ℕ, zero, suc, ◌+◌, ◌<◌, ◌≤◌, List, [], ◌∷◌, ◌++◌, drop, length, ℤ, if◌then◌else◌, None, Some, Result, Ok, Err, slice_get, append_assoc, append-nil, refl, sym, ap, ◌∙◌, subst, arith, length-append, slice_set, length-set, Bool, true, false}
use Rattle.std.specs.Prelude.{◌==◌}
use Rattle.std.specs.Fmt.{signed_decimal}
use Rattle.machine_steps.specs.Layout.{Layout}
use Rattle.node_code.specs.Instructions.{NewMapping, Instruction, Set, Jump, Halt, Print, PrintItem, PrintBytes, Remap}
use Rattle.code_meaning.specs.Instructions.{items_of, ArrayTable, remappings}
use Rattle.machine_steps.specs.Instr.{Remapping}
use Rattle.machine_steps.specs.Machine.{remapped, with_mapping}
use Rattle.mappings.specs.declared.mapping.Mapping.{Mapping}
use Rattle.lowering.proofs.Printing.{all_bytes, prints-line}
use Rattle.lowered_expressions.specs.WellFormed.{AreItems, IsControl, IsWellFormed, AreWellFormedArms, IsWellFormedBlock}
use Rattle.lowering.proofs.Foralls.{forall-goes}
use Rattle.lowering.proofs.Transforms.{transform-goes}
use Rattle.lowering.specs.Ranks.{KeepsRanks, ArmsKeepRanks, BlockKeepsRanks}
use Rattle.array_meaning.specs.Execution.{item_bytes, run, run_arms, run_block, iterate, all_item_bytes, print}
use Rattle.array_meaning.specs.Expressions.{value, index_values}
use Rattle.array_meaning.specs.Faults.{Cause, ◌>>=◌, fails}
use Rattle.op_tables.specs.Operators.{wrapped}
use Rattle.array_meaning.specs.Runs.{Run, normal, then_do, one_step, with_value}
use Rattle.array_meaning.specs.Iterations.{iteration_count}
use Rattle.array_meaning.specs.NestEntry.{entered}
use Rattle.array_meaning.specs.declared.faults.FaultKind.TheVariants.{ZeroStride}
use Rattle.array_meaning.specs.Sections.{sequence, sequence_of, value_count}
use Rattle.array_meaning.specs.State.{State}
use Rattle.array_meaning.specs.Statements.{Item, Value, Elements, Loop, Nest, Mark, Unmarked, Outermost, Block, Done, Then, Statement, AssignScalar, AssignElement, AssignSection, Transform, If, Do, Where, Forall, Stop, Exit, Cycle, Continue, Redistribute, Arms, NoArm, Arm}
use Rattle.array_meaning.specs.Terms.{Control}
use Rattle.array_meaning.specs.declared.sections.Sequence.{Sequence}
use Rattle.lowering.proofs.Assigns.{assigns, assigns-element, after-bind}
use Rattle.lowering.proofs.Loops.{after}
use Rattle.lowering.proofs.Branches.{Makes, arm-goes, enters}
use Rattle.lowering.proofs.NestChecks.{IsFormedMark, GoesOn, entry-goes}
use Rattle.lowering.proofs.NestNames.{formed_nest}
use Rattle.nest_items.specs.BlockForms.{HasForm, BlockHasForms, HasForms, ArmsHaveForms}
use Rattle.fitting_states.specs.FittingStates.{StateFits, ControlFits, BlockFits, StatementFits, ArmsFit}
use Rattle.fitting_states.proofs.Values.{known_value_fits}
use Rattle.fitting_states.proofs.Runs.{KeepsFits, run_fits, block_fits}
use Rattle.program_code.specs.NestCode.{nest_rows, nest_slots, nest_code}
use Rattle.lowered_nests.proofs.NestRuns.{HasCopies}
use Rattle.lowered_nests.proofs.NestGoes.{nest-goes}
use Rattle.lowering.proofs.SilentNests.{silent}
use Rattle.lowered_expressions.proofs.Goes.{Holds, kept-refl, Goes, goes-on, goes-at, goes-next, goes-value, ends-bind, value-bind, lands-done, set-reaches, jump-reaches, holds-slot, goes-as, goes-value-last}
use Rattle.lowering.proofs.Items.{SpreadGives, elements-come}
use Rattle.lowering.proofs.Parts.{term-comes}
use Rattle.statement_trail.specs.Trail.{Trail, Redistributed, after_value, reached, value_trail, selections_trail, control_trail, all_items_trail, iterate_trail, trail, arms_trail, block_trail, marked_trail, nest_trail}
use Rattle.lowered_expressions.specs.Passed.{note_at, passed, IsTrail}
use Rattle.lowered_expressions.proofs.Reach.{Idle, still, comes-last, HasAt, has-front, has-back, has-drop, SameBelow, same-refl, same-on, same-set, slot-set, Reaches, reaches-on, stands, one, Comes, comes-then, comes-at, comes-here}
use Rattle.lowering.proofs.Sections.{section-goes}
use Rattle.lowered_expressions.proofs.Terms.{HoldsArrays, HoldsScalars, holds-same, Gives}
use Rattle.lowering.proofs.Wheres.{where-goes}
use Rattle.program_code.specs.ExpressionCode.{subscripts_slots, subs_of, slots_of, flat_of, code_of, control_slots, control_code}
use Rattle.program_code.specs.StatementCode.{entry_code, loop_code, statement_slots, arms_slots, block_slots, statement_copies, arms_copies, block_copies, statement_code, arms_code, block_code, items_slots, item_code, items_code, print_items}
use Rattle.storage.specs.Storage.{Storage, read}
use Rattle.code_meaning.specs.Flat.{slot}
use Rattle.node_code.specs.Flat.{Flat}
use Rattle.array_meaning.specs.Statements as statements

-- no row is new after a redistribution
length-with : (layouts : List Layout) (row : ℕ) (mapping : Mapping) → length (with_mapping layouts row mapping) ≡ length layouts
length-with [] row mapping = refl
length-with (layout ∷ layouts) zero mapping = refl
length-with (layout ∷ layouts) (suc row) mapping = ap suc (length-with layouts row mapping)

length-remapped : (new : List Remapping) (layouts : List Layout) → length (remapped new layouts) ≡ length layouts
length-remapped [] layouts = refl
length-remapped (first ∷ new) layouts = length-remapped new (with_mapping layouts first.row first.mapping) ∙ length-with layouts first.row first.mapping

-- a loop's control and what follows it
loop-trail : (F L S : Trail) (r1 r2 r3 : Result ℤ Cause) (I : Sequence → Trail)
    → F ++ after_value r1 (λ a. L ++ after_value r2 (λ b. S ++ after_value r3 (λ d. after_value (sequence a b d) I)))
    ≡ (F ++ after_value r1 (λ a. L ++ after_value r2 (λ b. S))) ++ after_value (sequence_of r1 r2 r3) I
loop-trail F L S (Err c) r2 r3 I = sym (append-nil (F ++ []))
loop-trail F L S (Ok a) (Err c) r3 I = sym (append-nil (F ++ (L ++ [])))
loop-trail F L S (Ok a) (Ok b) r3 I =
    ap (λ T. F ++ (L ++ (S ++ T))) (sym (after-bind r3 (sequence a b) I))
    ∙ ap (λ T. F ++ T) (sym (append_assoc L S (after_value (r3 >>= sequence a b) I)))
    ∙ sym (append_assoc F (L ++ S) (after_value (r3 >>= sequence a b) I))

module _ (table : ArrayTable) (row_count : ℕ) (moves : ℕ → List NewMapping) (code : List Instruction) (n many : ℕ) (declared : length table.shapes ≡ n) (lie : HasCopies table n) where
  -- ---- PRINT

  abbrev ShowsAll : Storage → ℕ → List PrintItem → List ℤ → List ℕ → Type 0
  ShowsAll rows b items slots bytes = (later : List ℤ) → SameBelow b slots later → all_bytes later (read rows) (items_of table.shapes items) ≡ bytes

  items-come : (line : ℕ) (s : State) (rows : Storage) (holds_arrays : HoldsArrays n table.shapes s rows) (items : List Item) (pc b : ℕ) (slots : List ℤ) → AreItems n items
      → HasAt code pc (items_code line b items) → HoldsScalars n s slots → n ≤ b → b + items_slots items ≤ length slots
      → Comes table row_count moves code line rows s.printed (all_items_trail line s items) pc (pc + length (items_code line b items)) b slots (ShowsAll rows (b + items_slots items) (print_items b items))
      (all_item_bytes s items)
  items-come line s rows arrays [] pc b slots ok has holds le few =
      let e : pc ≡ pc + 0 = omega arith in
      comes-at table row_count moves code line rows s.printed [] pc pc (pc + 0) b slots (ShowsAll rows (b + 0) []) (Ok []) e
      (comes-here table row_count moves code line rows s.printed pc b slots (ShowsAll rows (b + 0) []) [] (λ later same. refl))
  items-come line s rows arrays (statements.Text bytes ∷ items) pc b slots ok has holds le few =
      let e : b + 0 + items_slots items ≡ b + (0 + items_slots items) = omega arith in
      let rest = items-come line s rows arrays items pc (b + 0) slots ok.1 has holds (omega (arith, le)) (omega (arith, few)) in
      let P = ShowsAll rows (b + (0 + items_slots items)) (PrintBytes bytes ∷ print_items (b + 0) items) in
      let to : ℕ = pc + length (items_code line (b + 0) items) in
      comes-last table row_count moves code line rows s.printed (all_items_trail line s items) pc to to b b slots (ShowsAll rows (b + 0 + items_slots items) (print_items (b + 0) items)) P (all_item_bytes s items)
      (λ rest. Ok ((32 ∷ bytes) ++ rest)) (omega arith)
      (subst (λ c. Comes table row_count moves code line rows s.printed (all_items_trail line s items) pc to c slots (ShowsAll rows (b + 0 + items_slots items) (print_items (b + 0) items)) (all_item_bytes s items))
      (zero-more b) rest)
      (λ slots1 rest e2 same shows. comes-here table row_count moves code line rows s.printed to b slots1 P ((32 ∷ bytes) ++ rest)
      (λ later same2. ap (λ r. (32 ∷ bytes) ++ r) (shows later (subst (λ c. SameBelow c slots1 later) (sym e) same2))))
    where
      zero-more : (b : ℕ) → b + 0 ≡ b
      zero-more b = omega arith
  items-come line s rows arrays (Value t ∷ items) pc b slots ok has holds le few =
      let c = code_of line b t in
      let b1 : ℕ = b + slots_of t in
      let cs = items_code line b1 items in
      let pc1 : ℕ = pc + length c in
      let b2 : ℕ = b1 + items_slots items in
      let to : ℕ = pc1 + length cs in
      let long : to ≡ pc + length (c ++ cs) = omega (arith, length-append c cs) in
      let all : b2 ≡ b + (slots_of t + items_slots items) = omega arith in
      let bytes = λ (v : ℤ). 32 ∷ signed_decimal v in
      let shows_all = print_items b (Value t ∷ items) in
      comes-at table row_count moves code line rows s.printed (all_items_trail line s (Value t ∷ items)) pc to (pc + length (c ++ cs)) b slots (ShowsAll rows (b + items_slots (Value t ∷ items)) shows_all)
      (all_item_bytes s (Value t ∷ items)) long
      (subst (λ u. Comes table row_count moves code line rows s.printed (all_items_trail line s (Value t ∷ items)) pc to b slots (ShowsAll rows u shows_all) (all_item_bytes s (Value t ∷ items))) all
      (comes-then table row_count moves code line rows s.printed (value_trail line s t) (λ x. all_items_trail line s items) pc pc1 to b b1 slots (λ slots1 x. (v : ℤ) × (x ≡ bytes v) × Gives b1 (flat_of b t) slots1 v) (ShowsAll rows b2 shows_all)
      (value [] s t >>= (λ v. Ok (bytes v))) (λ x. all_item_bytes s items >>= (λ rest. Ok (x ++ rest))) (omega arith)
      (comes-last table row_count moves code line rows s.printed (value_trail line s t) pc pc1 pc1 b b1 slots (Gives b1 (flat_of b t)) (λ slots1 x. (v : ℤ) × (x ≡ bytes v) × Gives b1 (flat_of b t) slots1 v)
      (value [] s t) (λ v. Ok (bytes v)) (omega arith)
      (term-comes table row_count moves code line n s rows s.printed arrays t pc b slots ok.0 (has-front code pc c cs has) holds le (omega (arith, few)))
      (λ slots1 v e same gives. comes-here table row_count moves code line rows s.printed pc1 b1 slots1 (λ slots1 x. (v : ℤ) × (x ≡ bytes v) × Gives b1 (flat_of b t) slots1 v) (bytes v)
      (v, refl, gives)))
      (λ slots1 x e same gives.
      comes-last table row_count moves code line rows s.printed (all_items_trail line s items) pc1 to to b1 b2 slots1 (ShowsAll rows b2 (print_items b1 items)) (ShowsAll rows b2 shows_all) (all_item_bytes s items)
      (λ rest. Ok (x ++ rest)) (omega arith)
      (items-come line s rows arrays items pc1 b1 slots1 ok.1 (has-back code pc c cs has) (holds-same n b s slots slots1 le holds same) (omega (arith, le))
      (omega (arith, few, same.0)))
      (λ slots2 rest e2 same2 shows.
      comes-here table row_count moves code line rows s.printed to b2 slots2 (ShowsAll rows b2 shows_all) (x ++ rest)
      (λ later same3.
      rw (gives.2 later (same-on b1 b1 b2 slots1 slots2 later (omega arith) (omega arith) same2 same3), shows later same3) (ap (λ y. y ++ rest) (sym gives.1)))))))
  items-come line s rows arrays (Elements a rs ∷ items) pc b slots ok has holds le few =
      let c = item_code line b (Elements a rs) in
      let b1 : ℕ = b + subscripts_slots rs in
      let cs = items_code line b1 items in
      let pc1 : ℕ = pc + length c in
      let b2 : ℕ = b1 + items_slots items in
      let to : ℕ = pc1 + length cs in
      let long : to ≡ pc + length (c ++ cs) = omega (arith, length-append c cs) in
      let all : b2 ≡ b + (subscripts_slots rs + items_slots items) = omega arith in
      let shows_all = print_items b (Elements a rs ∷ items) in
      comes-at table row_count moves code line rows s.printed (all_items_trail line s (Elements a rs ∷ items)) pc to (pc + length (c ++ cs)) b slots (ShowsAll rows (b + items_slots (Elements a rs ∷ items)) shows_all)
      (all_item_bytes s (Elements a rs ∷ items)) long
      (subst (λ u. Comes table row_count moves code line rows s.printed (all_items_trail line s (Elements a rs ∷ items)) pc to b slots (ShowsAll rows u shows_all) (all_item_bytes s (Elements a rs ∷ items))) all
      (comes-then table row_count moves code line rows s.printed (selections_trail line s rs) (λ x. all_items_trail line s items) pc pc1 to b b1 slots (SpreadGives table row_count moves code line n s rows s.printed arrays b1 a (subs_of b rs)) (ShowsAll rows b2 shows_all)
      (item_bytes s (Elements a rs)) (λ x. all_item_bytes s items >>= (λ rest. Ok (x ++ rest))) (omega arith)
      (elements-come table row_count moves code line n s rows s.printed arrays a rs pc b slots ok.0.0 ok.0.1 (has-front code pc c cs has) holds le (omega (arith, few)))
      (λ slots1 x e same gives.
      comes-last table row_count moves code line rows s.printed (all_items_trail line s items) pc1 to to b1 b2 slots1 (ShowsAll rows b2 (print_items b1 items)) (ShowsAll rows b2 shows_all) (all_item_bytes s items)
      (λ rest. Ok (x ++ rest)) (omega arith)
      (items-come line s rows arrays items pc1 b1 slots1 ok.1 (has-back code pc c cs has) (holds-same n b s slots slots1 le holds same) (omega (arith, le))
      (omega (arith, few, same.0)))
      (λ slots2 rest e2 same2 shows.
      comes-here table row_count moves code line rows s.printed to b2 slots2 (ShowsAll rows b2 shows_all) (x ++ rest)
      (λ later same3. ap (λ y. y ++ all_bytes later (read rows) (items_of table.shapes (print_items b1 items)))
      (gives later (same-on b1 b1 b2 slots1 slots2 later (omega arith) (omega arith) same2 same3)) ∙ ap (λ y. x ++ y) (shows later same3))))))

  -- ---- what wants no induction

  stays : (b pc leave again : ℕ) (slots : List ℤ) (rows : Storage) (s : State) → Holds table row_count moves code n many None s slots rows → Goes table row_count moves code n many None leave again []
      (pc + 0) b slots (stands table row_count moves code pc slots rows s.printed) (normal s)
  stays b pc leave again slots rows s holds = let e : pc ≡ pc + 0 = omega arith in goes-at table row_count moves code n many None leave again [] pc (pc + 0) b slots
      (stands table row_count moves code pc slots rows s.printed) (normal s) e (lands-done table row_count moves code n many None leave again pc b slots rows s holds)

  -- a redistribution is passed
  moved : (line pc : ℕ) (slots : List ℤ) (rows : Storage) (s : State) → slice_get code pc ≡ Some (Remap line (moves line)) → Holds table row_count moves code n many None s slots rows → (i : Idle row_count)
      → IsTrail moves (passed table 1 (stands table row_count moves code pc slots rows s.printed i)) (reached line s Redistributed)
  moved line pc slots rows s h holds i =
      subst (λ l. IsTrail moves (l ++ []) (reached line s Redistributed)) (sym (ap (λ o. note_at 0 o slots) h))
      (record { scalars = λ k lk. holds.scalars k (omega (arith, lk, holds.places)); event = (refl, refl, refl) }, tt)

  prints : (line b pc leave again : ℕ) (items : List Item) (slots : List ℤ) (rows : Storage) (s : State) → AreItems n items
      → HasAt code pc (items_code line b items ++ Print (print_items b items) ∷ []) → n ≤ b → b + items_slots items ≤ many → Holds table row_count moves code n many None s slots rows
      → Goes table row_count moves code n many None leave again (all_items_trail line s items) (pc + length (items_code line b items ++ Print (print_items b items) ∷ [])) b slots (stands table row_count moves code pc slots rows s.printed)
      (one_step line s (print items s))
  prints line b pc leave again items slots rows s ok has le few holds =
      let c = items_code line b items in
      let text = Print (print_items b items) in
      let pc1 : ℕ = pc + length c in
      let b1 : ℕ = b + items_slots items in
      let after = λ (bytes : List ℕ). record s { printed = s.printed ++ (drop 1 bytes ++ 10 ∷ []) } in
      let long : pc1 + 1 ≡ pc + length (c ++ text ∷ []) = omega (arith, length-append c (text ∷ [])) in
      goes-at table row_count moves code n many None leave again (all_items_trail line s items) (pc1 + 1) (pc + length (c ++ text ∷ [])) b slots (stands table row_count moves code pc slots rows s.printed)
      (one_step line s (print items s)) long
      (subst (Goes table row_count moves code n many None leave again (all_items_trail line s items) (pc1 + 1) b slots (stands table row_count moves code pc slots rows s.printed))
      (sym (ends-bind line s (all_item_bytes s items) (λ bytes. Ok (after bytes))))
      (goes-value-last table row_count moves code n many None leave again (all_items_trail line s items) line pc pc1 (pc1 + 1) b b1 slots rows s (ShowsAll rows b1 (print_items b items)) (all_item_bytes s items)
      (λ bytes. normal (after bytes)) (omega arith) le holds
      (items-come line s rows holds.arrays items pc b slots ok (has-front code pc c (text ∷ []) has) holds.scalars le (omega (arith, few, holds.size)))
      (λ slots1 bytes e same shows holds1. (
        slots1,
        rows,
        (λ i. let p = prints-line table row_count moves code pc1 slots1 rows s.printed (print_items b items) (has-back code pc c (text ∷ []) has).0 i in
            (p.0, i, p.1 ∙ ap (λ x. stands table row_count moves code (pc1 + 1) slots1 rows (s.printed ++ (drop 1 x ++ 10 ∷ [])) i) (shows slots1 (same-refl b1 slots1)), p.2)),
        kept-refl table row_count moves code n many None b1 slots1,
        record {
          scalars = holds1.scalars;
          arrays = record { elements = holds1.arrays.elements; shape = holds1.arrays.shape; places = holds1.arrays.places };
          places = holds1.places;
          more_places =
              holds1.more_places;
          wide = holds1.wide;
          more_rows = holds1.more_rows;
          copied = holds1.copied;
          size = holds1.size;
        },
      ))))

  -- the bounds of a loop, its entry, and what follows these: its trail and its run, by the values of its index
  module _ (line b pc leave again : ℕ) (mark : Mark) (l : Loop) (block : Block) (tail : ℕ → List Instruction) (trail_on : Sequence → State → Trail) (go : Sequence → State → Run)
      (slots : List ℤ) (rows : Storage) (s : State) where
    abbrev bounds_at : ℕ
    bounds_at = b + control_slots l.control

    abbrev before : List Instruction
    before = control_code line b l.control ++ entry_code line mark bounds_at

    -- what follows goes on where the bounds stand in slots
    abbrev FollowsOn : Type 0
    FollowsOn = (lp : ℕ) (slots1 : List ℤ) (a z d : ℤ) → HasAt code lp (tail lp) → value [] s l.control.first ≡ Ok a → index_values s l.control ≡ sequence a z d
        → Holds table row_count moves code n many None s slots1 rows → slot slots1 bounds_at ≡ a → slot slots1 (bounds_at + 1) ≡ z → slot slots1 (bounds_at + 2) ≡ d
        → GoesOn table row_count moves code n many None declared leave again line bounds_at s trail_on go mark lp (lp + length (tail lp)) slots1 rows a z d

    control-goes : IsFormedMark n mark l block → l.index < n → IsControl n l.control → HasAt code pc (before ++ tail (pc + length before)) → n ≤ b → b + (control_slots l.control + 4) ≤ many
        → Holds table row_count moves code n many None s slots rows → FollowsOn
        → Goes table row_count moves code n many None leave again (control_trail line s l.control ++ after_value (index_values s l.control) (λ p. after_value (entered mark s) (trail_on p)))
        (pc + length (before ++ tail (pc + length before))) b slots (stands table row_count moves code pc slots rows s.printed)
        (with_value line s (index_values s l.control) (λ p. then_do (one_step line s (entered mark s)) (go p)))
    control-goes formed lx ok has le few holds on =
        goes-at table row_count moves code n many None leave again (control_trail line s c ++ after_value (index_values s c) (λ p. after_value (entered mark s) (trail_on p))) to (pc + length (head ++ tail (pc + length head))) b slots (stands table row_count moves code pc slots rows s.printed)
        (with_value line s (index_values s c) does) long
        (goes-as table row_count moves code n many None leave again (value_trail line s c.first ++ after_value (value [] s c.first) u1) (control_trail line s c ++ after_value (index_values s c) (λ p. after_value (entered mark s) (trail_on p))) to b slots (stands table row_count moves code pc slots rows s.printed) (with_value line s (index_values s c) does)
        (loop-trail (value_trail line s c.first) (value_trail line s c.last) (value_trail line s c.step) (value [] s c.first) (value [] s c.last) (value [] s c.step) (λ p. after_value (entered mark s) (trail_on p)))
        (subst (Goes table row_count moves code n many None leave again (value_trail line s c.first ++ after_value (value [] s c.first) u1) to b slots (stands table row_count moves code pc slots rows s.printed))
        (sym (value-bind line s (value [] s c.first) (λ a. value [] s c.last >>= (λ z. value [] s c.step >>= sequence a z)) does))
        (goes-value table row_count moves code n many None leave again (value_trail line s c.first) u1 line pc pc1 to b b1 slots rows s (Gives b1 f1) (value [] s c.first)
        (λ a. with_value line s (value [] s c.last >>= (λ z. value [] s c.step >>= sequence a z)) does) (omega arith) le holds
        (term-comes table row_count moves code line n s rows s.printed holds.arrays c.first pc b slots ok.0 (has-front code pc c1 (c2 ++ (c3 ++ sets)) h) holds.scalars le
        (omega (arith, few, holds.size)))
        (λ slots1 a e1 same1 gives1 holds1.
        subst (Goes table row_count moves code n many None leave again (u1 a) to b1 slots1 (stands table row_count moves code pc1 slots1 rows s.printed))
        (sym (value-bind line s (value [] s c.last) (λ z. value [] s c.step >>= sequence a z) does))
        (goes-value table row_count moves code n many None leave again (value_trail line s c.last) (u2 a) line pc1 pc2 to b1 b2 slots1 rows s (Gives b2 f2) (value [] s c.last)
        (λ z. with_value line s (value [] s c.step >>= sequence a z) does) (omega arith) (omega (arith, le)) holds1
        (term-comes table row_count moves code line n s rows s.printed holds1.arrays c.last pc1 b1 slots1 ok.1 (has-front code pc1 c2 (c3 ++ sets) h1) holds1.scalars (omega (arith, le))
        (omega (arith, few, holds1.size)))
        (λ slots2 z e2 same2 gives2 holds2.
        subst (Goes table row_count moves code n many None leave again (u2 a z) to b2 slots2 (stands table row_count moves code pc2 slots2 rows s.printed)) (sym (value-bind line s (value [] s c.step) (sequence a z) does))
        (goes-value table row_count moves code n many None leave again (value_trail line s c.step) (λ d. after_value (sequence a z d) (λ p. after_value (entered mark s) (trail_on p))) line pc2 pc3 to b2 v' slots2 rows s (Gives v' f3) (value [] s c.step) (λ d. with_value line s (sequence a z d) does)
        (omega arith) (omega (arith, le)) holds2
        (term-comes table row_count moves code line n s rows s.printed holds2.arrays c.step pc2 b2 slots2 ok.2 (has-front code pc2 c3 sets h2) holds2.scalars (omega (arith, le))
        (omega (arith, few, holds2.size)))
        (λ slots3 d e3 same3 gives3 holds3.
        let holds4 = holds-slot table row_count moves code n many None s (slice_set (slice_set slots3 v a) (v + 1) z) rows (v + 2) d (omega (arith, le))
        (holds-slot table row_count moves code n many None s (slice_set slots3 v a) rows (v + 1) z (omega (arith, le))
        (holds-slot table row_count moves code n many None s slots3 rows v a (omega (arith, le)) holds3)) in
        let four = numbers slots3 a z d (omega (arith, few, holds3.size)) in
        let known : index_values s c ≡ sequence a z d = (λ j. sequence_of (e1 j) (e2 j) (e3 j)) in
        goes-on table row_count moves code n many None leave again [] (after_value (sequence a z d) (λ p. after_value (entered mark s) (trail_on p))) to v' v slots3 (filled slots3 a z d) (stands table row_count moves code pc3 slots3 rows s.printed)
        (stands table row_count moves code ep (filled slots3 a z d) rows s.printed) (with_value line s (sequence a z d) does) (omega arith)
        (fills slots3 a z d (λ later sl. gives1 later
        (same-on b1 b1 v' slots1 slots3 later (omega arith) (omega arith) (same-on b1 b1 b2 slots1 slots2 slots3 (omega arith) (omega arith) same2 same3) sl))
        (λ later sl. gives2 later (same-on b2 b2 v' slots2 slots3 later (omega arith) (omega arith) same3 sl)) gives3)
        (λ j from lt. (filled-below slots3 a z d).1 j (omega (arith, lt)))
        (entry-goes table row_count moves code n many None declared leave again line v s trail_on go mark l block ep to (filled slots3 a z d) rows a z d formed lx
        (has-front code ep entry (tail lp) hl) (omega (arith, le, few)) holds4 four.0 four.1 four.2 known
        (on lp (filled slots3 a z d) a z d (has-back code ep entry (tail lp) hl) e1 known holds4 four.0 four.1 four.2))))))))))
      where
        c : Control
        c = l.control

        u2 : ℤ → ℤ → Trail
        u2 a z = value_trail line s c.step ++ after_value (value [] s c.step) (λ d. after_value (sequence a z d) (λ p. after_value (entered mark s) (trail_on p)))

        u1 : ℤ → Trail
        u1 a = value_trail line s c.last ++ after_value (value [] s c.last) (u2 a)

        does : Sequence → Run
        does p = then_do (one_step line s (entered mark s)) (go p)

        v : ℕ
        v = b + control_slots c

        control : List Instruction
        control = control_code line b c

        entry : List Instruction
        entry = entry_code line mark v

        head : List Instruction
        head = control ++ entry

        ep : ℕ
        ep = pc + length control

        lp : ℕ
        lp = ep + length entry

        at_loop : pc + length head ≡ lp
        at_loop = omega (arith, length-append control entry)

        to : ℕ
        to = lp + length (tail lp)

        b1 : ℕ
        b1 = b + slots_of c.first

        b2 : ℕ
        b2 = b1 + slots_of c.last

        v' : ℕ
        v' = b2 + slots_of c.step

        f1 : Flat
        f1 = flat_of b c.first

        f2 : Flat
        f2 = flat_of b1 c.last

        f3 : Flat
        f3 = flat_of b2 c.step

        c1 : List Instruction
        c1 = code_of line b c.first

        c2 : List Instruction
        c2 = code_of line b1 c.last

        c3 : List Instruction
        c3 = code_of line b2 c.step

        sets : List Instruction
        sets = Set line v f1 ∷ Set line (v + 1) f2 ∷ Set line (v + 2) f3 ∷ []

        pc1 : ℕ
        pc1 = pc + length c1

        pc2 : ℕ
        pc2 = pc1 + length c2

        pc3 : ℕ
        pc3 = pc2 + length c3

        long : to ≡ pc + length (head ++ tail (pc + length head))
        long = omega (arith, length-append control entry, length-append head (tail lp)) ∙ ap (λ k. pc + length (head ++ tail k)) (sym at_loop)

        whole : HasAt code pc (control ++ (entry ++ tail lp))
        whole = subst (HasAt code pc) (append_assoc control entry (tail lp)) (subst (λ k. HasAt code pc (head ++ tail k)) at_loop has)

        h : HasAt code pc control
        h = has-front code pc control (entry ++ tail lp) whole

        hl : HasAt code ep (entry ++ tail lp)
        hl = has-back code pc control (entry ++ tail lp) whole

        h1 : HasAt code pc1 (c2 ++ (c3 ++ sets))
        h1 = has-back code pc c1 (c2 ++ (c3 ++ sets)) h

        h2 : HasAt code pc2 (c3 ++ sets)
        h2 = has-back code pc1 c2 (c3 ++ sets) h1

        h3 : HasAt code pc3 sets
        h3 = has-back code pc2 c3 sets h2

        filled : List ℤ → ℤ → ℤ → ℤ → List ℤ
        filled slots a z d = slice_set (slice_set (slice_set slots v a) (v + 1) z) (v + 2) d

        filled-below : (slots : List ℤ) (a z d : ℤ) → SameBelow v slots (filled slots a z d)
        filled-below slots a z d = same-on v v v slots (slice_set (slice_set slots v a) (v + 1) z) (filled slots a z d) (omega arith) (omega arith)
            (same-on v v v slots (slice_set slots v a) (slice_set (slice_set slots v a) (v + 1) z) (omega arith) (omega arith) (same-set v v slots a (omega arith))
            (same-set v (v + 1) (slice_set slots v a) z (omega arith))) (same-set v (v + 2) (slice_set (slice_set slots v a) (v + 1) z) d (omega arith))

        numbers : (slots : List ℤ) (a z d : ℤ) → v + 4 ≤ length slots → (slot (filled slots a z d) v ≡ a) × (slot (filled slots a z d) (v + 1) ≡ z)
            × (slot (filled slots a z d) (v + 2) ≡ d)
        numbers slots a z d lt =
            let s1 = slice_set slots v a in
            let s2 = slice_set s1 (v + 1) z in (
              sym ((same-set (v + 1) (v + 2) s2 d (omega arith)).1 v (omega arith)) ∙ sym ((same-set (v + 1) (v + 1) s1 z (omega arith)).1 v (omega arith))
                  ∙ slot-set v slots a (omega (arith, lt)),
              sym ((same-set (v + 2) (v + 2) s2 d (omega arith)).1 (v + 1) (omega arith)) ∙ slot-set (v + 1) s1 z (omega (arith, lt, length-set slots v a)),
              slot-set (v + 2) s2 d (omega (arith, lt, length-set slots v a, length-set s1 (v + 1) z)),
            )

        fills : (slots : List ℤ) (a z d : ℤ) → Gives v' f1 slots a → Gives v' f2 slots z → Gives v' f3 slots d → Reaches table row_count moves code [] (stands table row_count moves code pc3 slots rows s.printed)
            (stands table row_count moves code ep (filled slots a z d) rows s.printed)
        fills slots a z d g1 g2 g3 =
            let s1 = slice_set slots v a in
            let s2 = slice_set s1 (v + 1) z in
            let r1 = set-reaches table row_count moves code n many None line pc3 v slots rows s.printed f1 a h3.0 (g1 slots (same-refl v' slots)) in
            let r2 = set-reaches table row_count moves code n many None line (pc3 + 1) (v + 1) s1 rows s.printed f2 z h3.1.0 (g2 s1 (same-set v' v slots a (omega arith))) in
            let r3 = set-reaches table row_count moves code n many None line (pc3 + 1 + 1) (v + 2) s2 rows s.printed f3 d h3.1.1.0
            (g3 s2 (same-on v' v' v' slots s1 s2 (omega arith) (omega arith) (same-set v' v slots a (omega arith)) (same-set v' (v + 1) s1 z (omega arith)))) in
            let e : pc3 + 1 + 1 + 1 ≡ ep = omega (arith, length-append c1 (c2 ++ (c3 ++ sets)), length-append c2 (c3 ++ sets), length-append c3 sets) in
            reaches-on table row_count moves code (stands table row_count moves code pc3 slots rows s.printed) (stands table row_count moves code (pc3 + 1) s1 rows s.printed)
            (stands table row_count moves code ep (filled slots a z d) rows s.printed) r1
            (reaches-on table row_count moves code (stands table row_count moves code (pc3 + 1) s1 rows s.printed) (stands table row_count moves code (pc3 + 1 + 1) s2 rows s.printed)
            (stands table row_count moves code ep (filled slots a z d) rows s.printed) r2
            (subst (λ p. Reaches table row_count moves code [] (stands table row_count moves code (pc3 + 1 + 1) s2 rows s.printed) (stands table row_count moves code p (filled slots a z d) rows s.printed)) e r3))

  after-same : {A : Type 0} (r : Result A Cause) (T U : A → Trail) → ((a : A) → T a ≡ U a) → after_value r T ≡ after_value r U
  after-same (Ok a) T U h = h a
  after-same (Err c) T U h = refl

  -- a loop whose trail is that of its turns
  loop-goes : (line b pc leave again : ℕ) (mark : Mark) (l : Loop) (block : Block) (bcode : ℕ → ℕ → ℕ → List Instruction) (brun : State → Run) (btrail : State → Trail) (slots : List ℤ)
      (rows : Storage) (s : State) → IsFormedMark n mark l block → l.index < n → IsControl n l.control → ControlFits l.control → StateFits s
      → HasAt code pc ((control_code line b l.control ++ entry_code line mark (b + control_slots l.control))
      ++ loop_code line (pc + length (control_code line b l.control ++ entry_code line mark (b + control_slots l.control))) (b + control_slots l.control) l.index bcode)
      → n ≤ b → b + (control_slots l.control + 4) ≤ many → Holds table row_count moves code n many None s slots rows → KeepsFits brun
      → ((p : Sequence) → iterate_trail p.count l.index p.first p.step brun btrail s ≡ marked_trail mark (iterate_trail p.count l.index p.first p.step brun btrail) s)
      → ((s : State) (slots : List ℤ) (rows : Storage) (pc leave again : ℕ) → StateFits s → HasAt code pc (bcode pc leave again) → Holds table row_count moves code n many None s slots rows
      → Goes table row_count moves code n many None leave again (btrail s) (pc + length (bcode pc leave again)) (b + control_slots l.control + 4) slots
      (stands table row_count moves code pc slots rows s.printed) (brun s))
      → Goes table row_count moves code n many None leave again
      (control_trail line s l.control ++ after_value (index_values s l.control) (λ p. after_value (entered mark s) (marked_trail mark (iterate_trail p.count l.index p.first p.step brun btrail))))
      (pc + length ((control_code line b l.control ++ entry_code line mark (b + control_slots l.control))
      ++ loop_code line (pc + length (control_code line b l.control ++ entry_code line mark (b + control_slots l.control))) (b + control_slots l.control) l.index bcode)) b slots
      (stands table row_count moves code pc slots rows s.printed)
      (with_value line s (index_values s l.control) (λ p. then_do (one_step line s (entered mark s)) (iterate p.count l.index p.first p.step brun)))
  loop-goes line b pc leave again mark l block bcode brun btrail slots rows s formed lx ok fit fits has le few holds stays turns makes =
      control-goes line b pc leave again mark l block (λ lp. loop_code line lp v x bcode) (λ p. marked_trail mark (iterate_trail p.count x p.first p.step brun btrail))
      (λ p. iterate p.count x p.first p.step brun) slots rows s formed lx ok has le few holds
      (λ lp slots1 a z d in_loop is known holds1 e1 e2 e3 passed tested.
      goes-at table row_count moves code n many None leave again (after_value (sequence a z d) (λ p. marked_trail mark (iterate_trail p.count x p.first p.step brun btrail) s))
      (after table row_count moves code n many None line lp v x bcode brun btrail) (lp + length (loop_code line lp v x bcode)) v slots1
      (stands table row_count moves code lp slots1 rows s.printed) (with_value line s (sequence a z d) (λ p. iterate p.count x p.first p.step brun s))
      (omega (arith, length-append (bcode (lp + 8) (lp + 3) (lp + 4)) (Jump (lp + 4) ∷ [])))
      (goes-as table row_count moves code n many None leave again (after_value (sequence a z d) (λ p. iterate_trail p.count x p.first p.step brun btrail s))
      (after_value (sequence a z d) (λ p. marked_trail mark (iterate_trail p.count x p.first p.step brun btrail) s)) (after table row_count moves code n many None line lp v x bcode brun btrail) v
      slots1 (stands table row_count moves code lp slots1 rows s.printed) (with_value line s (sequence a z d) (λ p. iterate p.count x p.first p.step brun s))
      (after-same (sequence a z d) (λ p. iterate_trail p.count x p.first p.step brun btrail s) (λ p. marked_trail mark (iterate_trail p.count x p.first p.step brun btrail) s) turns)
      (enters table row_count moves code n many None leave again line lp v x bcode brun btrail slots1 rows s a z d in_loop lx (omega (arith, le)) (omega (arith, few))
      (λ s slots rows fits holds. makes s slots rows (lp + 8) (lp + 3) (lp + 4) fits
      (has-front code (lp + 8) (bcode (lp + 8) (lp + 3) (lp + 4)) (Jump (lp + 4) ∷ []) (has-drop code 8 lp (loop_code line lp v x bcode) in_loop)) holds)
      stays fits (known_value_fits s fits [] tt l.control.first a fit.0 is) holds1 e1 e2 e3)))
    where
      v : ℕ
      v = b + control_slots l.control

      x : ℕ
      x = l.index

  -- a nest without statements has no part, and neither have its loops
  no-part : (nest : Nest) (s : State) → nest_trail nest Done s ≡ []
  no-part nest s = by (iteration_count nest s == 0)
    where
      none : Trail
      none = []

      by : (t : Bool) → (if t then none else none) ≡ none
      by true = refl
      by false = refl

  -- a nest with statements
  nest-follows : (line b pc leave again : ℕ) (nest : Nest) (l : Loop) (bl body : Block) (slots : List ℤ) (rows : Storage) (s : State) → HasForm nest l bl body → (body ≡ Done → ⊥)
      → l.index < n → IsControl n l.control → IsWellFormedBlock n bl → ControlFits l.control → StateFits s → n + nest_rows n nest body ≤ row_count
      → HasAt code pc ((control_code line b l.control ++ entry_code line (Outermost nest body) (b + control_slots l.control))
      ++ nest_code n line nest body (b + control_slots l.control) (pc + length (control_code line b l.control ++ entry_code line (Outermost nest body) (b + control_slots l.control))))
      → n ≤ b → b + (control_slots l.control + nest_slots nest body) ≤ many → Holds table row_count moves code n many None s slots rows
      → Goes table row_count moves code n many None leave again (trail (Do (Outermost nest body) l bl) line s)
      (pc + length ((control_code line b l.control ++ entry_code line (Outermost nest body) (b + control_slots l.control))
      ++ nest_code n line nest body (b + control_slots l.control) (pc + length (control_code line b l.control ++ entry_code line (Outermost nest body) (b + control_slots l.control))))) b slots
      (stands table row_count moves code pc slots rows s.printed) (run (Do (Outermost nest body) l bl) line s)
  nest-follows line b pc leave again nest l bl body slots rows s form some lx ok named fit fits room has le few holds =
      let formed = formed_nest n nest l bl body form named in
      let loops : length nest.loops ≡ suc (length formed.inner) = ap length formed.is in
      control-goes line b pc leave again (Outermost nest body) l bl (λ lp. nest_code n line nest body v lp) (λ p. nest_trail nest body)
      (λ p. iterate p.count l.index p.first p.step (run_block bl)) slots rows s formed lx ok has le (omega (arith, few, loops)) holds
      (λ lp slots1 a z d in_nest is known holds1 e1 e2 e3 passed tested.
      let first : Sequence = record { first = a; step = d; count = value_count (wrapped a) (wrapped z) (wrapped d) } in
      let q : sequence a z d ≡ Ok first = ap (λ t. if t then fails ZeroStride else Ok first) tested in
      let to : ℕ = lp + length (nest_code n line nest body v lp) in
      subst (λ r. Goes table row_count moves code n many None leave again (after_value r (λ p. nest_trail nest body s)) to v slots1
      (stands table row_count moves code lp slots1 rows s.printed) (with_value line s r (λ p. iterate p.count l.index p.first p.step (run_block bl) s))) (sym q)
      (nest-goes table row_count moves code n many lie declared line lp v nest l bl body s slots1 rows form named lx some fit (omega (arith, le)) (omega (arith, few)) room fits holds1
      in_nest first (known ∙ q) a z d e1 e2 e3 known passed leave again))
    where
      v : ℕ
      v = b + control_slots l.control

  mutual
    pub statement-goes : (st : Statement) (line b pc leave again : ℕ) (slots : List ℤ) (rows : Storage) (s : State) → IsWellFormed n st → HasForms st
        → KeepsRanks table.shapes st → StatementFits st → StateFits s
        → n + statement_copies n st ≤ row_count → HasAt code pc (statement_code n moves line st b pc leave again) → n ≤ b → b + statement_slots st ≤ many
        → Holds table row_count moves code n many None s slots rows
        → Goes table row_count moves code n many None leave again (trail st line s) (pc + length (statement_code n moves line st b pc leave again)) b slots
        (stands table row_count moves code pc slots rows s.printed) (run st line s)
    statement-goes (AssignScalar k t) line b pc leave again slots rows s ok forms ranked fit fits room has le few holds =
        assigns table row_count moves code n many None leave again line b pc k t slots rows s ok.0 ok.1 has le few holds
    statement-goes (AssignElement a ts t) line b pc leave again slots rows s ok forms ranked fit fits room has le few holds =
        assigns-element table row_count moves code n many None leave again line b pc a ts t slots rows s ok.0 ok.1 ok.2 has le few holds
    statement-goes (AssignSection a rs t) line b pc leave again slots rows s ok forms ranked fit fits room has le few holds =
        section-goes table row_count moves code n many None leave again line b pc a rs t slots rows s ok.0 ok.1 ok.2 has le few holds
    statement-goes (Transform x y how) line b pc leave again slots rows s ok forms ranked fit fits room has le few holds =
        transform-goes table row_count moves code n many leave again line lie x y how ok.0 ok.1 ranked.0 s rows b pc slots ok.2 has le few holds
    statement-goes (If arms other) line b pc leave again slots rows s ok forms ranked fit fits room has le few holds =
        arms-go arms (λ pc. block_code n moves other b pc leave again) (run_block other) (block_trail other) b pc leave again slots rows s ok.0 forms.0 ranked.0 fit.0 fits (omega (arith, room)) has le
        (omega (arith, few)) holds
        (λ pc slots rows has holds. block-goes other b pc leave again slots rows s ok.1 forms.1 ranked.1 fit.1 fits (omega (arith, room)) has le (omega (arith, few)) holds)
    statement-goes (Do Unmarked loop bl) line b pc leave again slots rows s ok forms ranked fit fits room has le few holds =
        loop-goes line b pc leave again Unmarked loop bl (block_code n moves bl (b + control_slots loop.control + 4)) (run_block bl) (block_trail bl) slots rows s tt ok.0 ok.1 fit.1 fits has le
        (omega (arith, few)) holds (block_fits bl fit.2) (λ p. refl)
        (λ s slots rows pc leave again fits has holds. block-goes bl (b + control_slots loop.control + 4) pc leave again slots rows s ok.2 forms ranked.1 fit.2 fits room has (omega (arith, le))
        (omega (arith, few)) holds)
    statement-goes (Do (Outermost nest Done) loop bl) line b pc leave again slots rows s ok forms ranked fit fits room has le few holds =
        let formed = formed_nest n nest loop bl Done forms ok.2 in
        loop-goes line b pc leave again (Outermost nest Done) loop bl (block_code n moves bl (b + control_slots loop.control + 4)) (run_block bl) (block_trail bl) slots rows s formed ok.0 ok.1
        fit.1 fits has le (omega (arith, few)) holds (block_fits bl fit.2) (λ p. silent nest loop bl Done forms p s ∙ sym (no-part nest s))
        (λ s slots rows pc leave again fits has holds. block-goes bl (b + control_slots loop.control + 4) pc leave again slots rows s ok.2 formed.forms ranked.1 fit.2 fits room has (omega (arith, le))
        (omega (arith, few)) holds)
    statement-goes (Do (Outermost nest (Then l st rest)) loop bl) line b pc leave again slots rows s ok forms ranked fit fits room has le few holds =
        nest-follows line b pc leave again nest loop bl (Then l st rest) slots rows s forms (λ e. absurd cc) ok.0 ok.1 ok.2 fit.1 fits room has le few holds
    statement-goes (Where mask bl others) line b pc leave again slots rows s ok forms ranked fit fits room has le few holds =
        where-goes table row_count moves code n many leave again lie.sized line b pc mask bl others slots rows s ok.0 ok.1 ok.2 has le few holds
    statement-goes (Forall cs mask bl) line b pc leave again slots rows s ok forms ranked fit fits room has le few holds =
        forall-goes table row_count moves code n many leave again lie.sized line b pc cs mask bl slots rows s ok.0 ok.1 ok.2 has le few holds
    statement-goes (statements.Print items) line b pc leave again slots rows s ok forms ranked fit fits room has le few holds = prints line b pc leave again items slots rows s ok has le few holds
    statement-goes Stop line b pc leave again slots rows s ok forms ranked fit fits room has le few holds =
        λ i. (_, (1, one table row_count moves code pc slots rows s.printed Halt has.0 i, still table row_count moves code pc slots rows s.printed Halt has.0 refl i), refl, refl, holds, refl)
    statement-goes Exit line b pc leave again slots rows s ok forms ranked fit fits room has le few holds =
        (slots, rows, jump-reaches table row_count moves code n many None pc leave slots rows s.printed has.0, kept-refl table row_count moves code n many None b slots, holds)
    statement-goes Cycle line b pc leave again slots rows s ok forms ranked fit fits room has le few holds =
        (slots, rows, jump-reaches table row_count moves code n many None pc again slots rows s.printed has.0, kept-refl table row_count moves code n many None b slots, holds)
    statement-goes Continue line b pc leave again slots rows s ok forms ranked fit fits room has le few holds = stays b pc leave again slots rows s holds
    statement-goes Redistribute line b pc leave again slots rows s ok forms ranked fit fits room has le few holds = (
      slots,
      rows,
      (λ i. (
        1,
        record {
          layouts = remapped (remappings table.maps (moves line)) i.layouts;
          parts = i.parts;
          joined = i.joined;
          laid = length-remapped (remappings table.maps (moves line)) i.layouts ∙ i.laid;
        },
        one table row_count moves code pc slots rows s.printed (Remap line (moves line)) has.0 i,
        moved line pc slots rows s has.0 holds i,
      )),
      kept-refl table row_count moves code n many None b slots,
      holds,
    )

    pub arms-go : (arms : Arms) (rest : ℕ → List Instruction) (others : State → Run) (otrail : State → Trail) (b pc leave again : ℕ) (slots : List ℤ) (rows : Storage) (s : State)
        → AreWellFormedArms n arms → ArmsHaveForms arms → ArmsKeepRanks table.shapes arms → ArmsFit arms → StateFits s
        → n + arms_copies n arms ≤ row_count → HasAt code pc (arms_code n moves arms rest b pc leave again) → n ≤ b
        → b + arms_slots arms ≤ many → Holds table row_count moves code n many None s slots rows → ((pc : ℕ) → Makes table row_count moves code n many None leave again rest b pc others otrail s)
        → Goes table row_count moves code n many None leave again (arms_trail arms otrail s) (pc + length (arms_code n moves arms rest b pc leave again)) b slots
        (stands table row_count moves code pc slots rows s.printed) (run_arms arms others s)
    arms-go NoArm rest others otrail b pc leave again slots rows s ok forms ranked fit fits room has le few holds makes = makes pc slots rows has holds
    arms-go (Arm line cond bl arms) rest others otrail b pc leave again slots rows s ok forms ranked fit fits room has le few holds makes =
        arm-goes table row_count moves code n many None leave again line b pc cond (λ pc. block_code n moves bl b pc leave again) (λ pc. arms_code n moves arms rest b pc leave again) (run_block bl)
        (run_arms arms others) (block_trail bl) (arms_trail arms otrail) slots rows s ok.0 has le (omega (arith, few)) holds
        (λ pc slots rows has holds. block-goes bl b pc leave again slots rows s ok.1 forms.0 ranked.1 fit.1 fits (omega (arith, room)) has le (omega (arith, few)) holds)
        (λ pc slots rows has holds. arms-go arms rest others otrail b pc leave again slots rows s ok.2 forms.1 ranked.2 fit.2 fits (omega (arith, room)) has le (omega (arith, few)) holds makes)

    pub block-goes : (bl : Block) (b pc leave again : ℕ) (slots : List ℤ) (rows : Storage) (s : State) → IsWellFormedBlock n bl → BlockHasForms bl
        → BlockKeepsRanks table.shapes bl → BlockFits bl → StateFits s
        → n + block_copies n bl ≤ row_count → HasAt code pc (block_code n moves bl b pc leave again) → n ≤ b → b + block_slots bl ≤ many
        → Holds table row_count moves code n many None s slots rows
        → Goes table row_count moves code n many None leave again (block_trail bl s) (pc + length (block_code n moves bl b pc leave again)) b slots
        (stands table row_count moves code pc slots rows s.printed) (run_block bl s)
    block-goes Done b pc leave again slots rows s ok forms ranked fit fits room has le few holds = stays b pc leave again slots rows s holds
    block-goes (Then line st rest) b pc leave again slots rows s ok forms ranked fit fits room has le few holds =
        let c = statement_code n moves line st b pc leave again in
        let pc1 : ℕ = pc + length c in
        let cs = block_code n moves rest b pc1 leave again in
        let long : pc1 + length cs ≡ pc + length (c ++ cs) = omega (arith, length-append c cs) in
        goes-at table row_count moves code n many None leave again (block_trail (Then line st rest) s) (pc1 + length cs) (pc + length (c ++ cs)) b slots
        (stands table row_count moves code pc slots rows s.printed) (run_block (Then line st rest) s) long
        (goes-next table row_count moves code n many None leave again (trail st line s) (block_trail rest) pc1 (pc1 + length cs) b slots (stands table row_count moves code pc slots rows s.printed)
        (run st line s) (run_block rest)
        (statement-goes st line b pc leave again slots rows s ok.0 forms.0 ranked.0 fit.0 fits (omega (arith, room)) (has-front code pc c cs has) le (omega (arith, few)) holds)
        (λ slots1 rows1 kept holds1. block-goes rest b pc1 leave again slots1 rows1 (run st line s).state ok.1 forms.1 ranked.1 fit.1 (run_fits st line fit.0 s fits) (omega (arith, room))
        (has-back code pc c cs has) le (omega (arith, few)) holds1))
