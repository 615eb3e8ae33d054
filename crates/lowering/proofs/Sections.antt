-- The code of an array assignment: limits, one parallel statement, its Verdict.
use Rattle.node_code.specs.Instructions.{NewMapping, Instruction, Limits, Par, Verdict}
use Rattle.code_meaning.specs.Instructions.{go_on_if, ArrayTable}
use Rattle.std.proofs.Common.{◌≡◌, ℕ, ◌+◌, ◌<◌, ◌≤◌, List, [], ◌∷◌, ◌++◌, length, ℤ, Bool, true, Option, None, Result, Ok, Err, refl, sym, ap, ◌∙◌, subst, arith, length-append}
use Rattle.array_meaning.specs.ArrayAssignments.{store_at, if_true, assign_elemental, assign_section}
use Rattle.array_meaning.specs.Elementals.{Elemental, sections, value_at, each}
use Rattle.array_meaning.specs.Expressions.{selections, elemental}
use Rattle.array_meaning.specs.Faults.{Cause, Fault, ◌>>=◌, at_tuple}
use Rattle.array_meaning.specs.Runs.{one_step, with_value}
use Rattle.array_meaning.specs.Sections.{subscripts_at, positions, extents, space_size}
use Rattle.array_meaning.specs.State.{State, store_all}
use Rattle.array_meaning.specs.Terms.{Term, SectionSubscripts}
use Rattle.array_meaning.specs.declared.sections.Selection.{Selection}
use Rattle.array_meaning.specs.declared.sections.Store.{Store}
use Rattle.hpf_base.specs.ElementOrder.{product}
use Rattle.lowered_expressions.proofs.Goes.{Holds, kept-refl, Goes, goes-on, goes-at, goes-value, ends-bind}
use Rattle.lowering.proofs.Parts.{SubsGive, FormGives, subscripts-come, parts-come}
use Rattle.std.specs.Prelude.{is_some, option_map}
use Rattle.statement_trail.specs.Anchors.{AnchorText}
use Rattle.statement_trail.specs.Trail.{Trail, SectionAssigned, after_value, reached, selections_trail, elemental_trail, section_trail}
use Rattle.lowered_expressions.specs.Anchors.{IsBeside, IsForeknown}
use Rattle.lowered_expressions.specs.Passed.{IsMaskCopy, note, IsTrail}
use Rattle.lowered_expressions.proofs.Reach.{still, HasAt, has-front, has-back, SameBelow, same-refl, same-on, stands, one, Place}
use Rattle.lowering.proofs.Storing.{masked-does, stores-go}
use Rattle.lowered_expressions.proofs.Scatter.{space-size, space-counted, Does, values_of, NamesBelow}
use Rattle.program_code.specs.ExpressionCode.{subscripts_slots, subs_of, subscripts_code, parts_slots, parts_code, form_of}
use Rattle.lowered_expressions.specs.WellFormed.{AreScalarSubscripts, IsArray}
use Rattle.program_code.specs.StatementCode.{Masking, assignment, assignment_code}
use Rattle.machine_steps.specs.Instr.{Running, Outcome}
use Rattle.machine_steps.specs.Space.{space_count}
use Rattle.machine_steps.specs.Machine as machine
use Rattle.machine_steps.specs.Machine.{effect_of, value_by}
use Rattle.storage.specs.Storage.{Storage, read}
use Rattle.code_meaning.specs.Forms.{selections_in, elemental_in}
use Rattle.node_code.specs.Parallel.{Assignment}
use Rattle.code_meaning.specs.Parallel.{assignment_tuples, assigned_spot, at_line, assignment_size, mask_reads, is_asked, outcome_if, assigned_value, reads_at, spot_of}

module _ (table : ArrayTable) (row_count : ℕ) (moves : ℕ → List NewMapping) (code : List Instruction) (n many : ℕ) (copy : Option (List ℤ)) (leave again : ℕ) (p : Assignment) (la : p.array < n) (masks : IsMaskCopy n p.mask)
    (beside : Option AnchorText) (lies : IsBeside n p.beside beside) (known : IsForeknown beside) where
  -- what the slots say, and which tuples are chosen
  module _ (b pc : ℕ) (has : HasAt code pc (Limits p ∷ Par p ∷ Verdict ∷ [])) (slots : List ℤ) (rows : Storage) (s : State) (holds : Holds table row_count moves code n many copy s slots rows)
      (ds : List Selection) (r : Elemental) (ns : List ℕ) (chosen : ℕ → Bool)
      (left : selections_in slots p.left ≡ ds) (right : elemental_in slots p.right ≡ r) (over : extents (selections_in slots p.over) ≡ ns) (named : NamesBelow n r)
      (mask : (t : ℕ) (values : List ℤ) → t < product ns → is_asked p.mask (values_of rows (mask_reads p.mask t) ++ values) ≡ chosen t) where
    abbrev entry : Trail
    entry = reached p.line s (SectionAssigned (is_some p.mask) beside ns p.array ds r)

    those : IsTrail moves (note (Par p) slots) entry
    those = (
      record {
        scalars = λ k lk. holds.scalars k (omega (arith, lk, holds.places));
        event = (refl, (beside, rw (left, right, over) refl, (λ w e. masks w e ∙ sym holds.places), subst (λ k. IsBeside k p.beside beside) (sym holds.places) lies, known));
      },
      tt,
    )

    abbrev outcome : ℕ → Outcome Fault
    outcome = machine.outcome_of (assignment_tuples table.shapes p) slots (read rows)

    abbrev at_a_tuple : ℕ → Result (Option Store) Cause
    at_a_tuple t = if_true (chosen t) (store_at s p.array (subscripts_at ds (positions ns t)) (value_at s (positions ns t) r))

    tuple-is : (t : ℕ) → t < product ns → Does p.line p.array (assigned_spot table.shapes p slots t) (outcome t) (at_tuple (positions ns t) (at_a_tuple t))
    tuple-is t lt =
        let x = positions ns t in
        let values = values_of rows (mask_reads p.mask t ++ reads_at table.shapes x r) in
        let spot : assigned_spot table.shapes p slots t ≡ spot_of table.shapes p.array (subscripts_at ds x) = rw (left, over) refl in
        let here : outcome t ≡ outcome_if (is_asked p.mask values) (at_line p.line (assigned_value table.shapes p.array ds r x values (length (mask_reads p.mask t)))) =
        rw (left, right, over) refl in
        subst (λ l. Does p.line p.array l (outcome t) (at_tuple x (at_a_tuple t))) (sym spot)
        (subst (λ o. Does p.line p.array (spot_of table.shapes p.array (subscripts_at ds x)) o (at_tuple x (at_a_tuple t))) (sym here)
        (masked-does n table.shapes s rows holds.arrays x p.line p.array ds r p.mask t (chosen t) la named (λ values. mask t values lt)))

    abbrev end : ℕ → Storage → Place row_count
    end at rows = stands table row_count moves code at slots rows s.printed

    -- after the limits: the parallel statement and its Verdict
    par-goes : space_count ns ≡ product ns → Goes table row_count moves code n many copy leave again entry (pc + 3) b slots (end (pc + 1) rows)
        (one_step p.line s (each (positions ns) at_a_tuple (product ns) >>= (λ stores. Ok (store_all s p.array stores))))
    par-goes all =
        let e : pc + 1 + 2 ≡ pc + 3 = omega arith in
        goes-at table row_count moves code n many copy leave again entry (pc + 1 + 2) (pc + 3) b slots (end (pc + 1) rows)
        (one_step p.line s (each (positions ns) at_a_tuple (product ns) >>= (λ stores. Ok (store_all s p.array stores)))) e
        (stores-go table row_count moves code n many copy leave again (Par p) (assignment_tuples table.shapes p) (assigned_spot table.shapes p) refl p.line p.array b
        (pc + 1) la has.1 slots rows s holds (product ns) (ap space_count over ∙ all) (positions ns) at_a_tuple tuple-is entry those)

    -- the shapes and limits first
    pub assigned-goes : Goes table row_count moves code n many copy leave again (after_value (space_size ns (ds ∷ sections r)) (λ k. reached p.line s (SectionAssigned (is_some p.mask) beside ns p.array ds r))) (pc + 3) b slots (end pc rows) (one_step p.line s (assign_elemental ns chosen p.array ds r s))
    assigned-goes =
        subst (Goes table row_count moves code n many copy leave again (after_value (space_size ns (ds ∷ sections r)) (λ k. entry)) (pc + 3) b slots (end pc rows))
        (sym (ends-bind p.line s (space_size ns (ds ∷ sections r)) (λ k. each (positions ns) at_a_tuple k >>= (λ stores. Ok (store_all s p.array stores)))))
        (by_limits (space_size ns (ds ∷ sections r)) refl)
      where
        limits : assignment_size p slots ≡ space_size ns (ds ∷ sections r)
        limits =
            ap (λ x. space_size (extents (selections_in slots p.over)) (x ∷ sections (elemental_in slots p.right))) left
            ∙ ap (λ x. space_size (extents (selections_in slots p.over)) (ds ∷ sections x)) right
            ∙ ap (λ x. space_size x (ds ∷ sections r)) over

        by_limits : (q : Result ℕ Cause) → space_size ns (ds ∷ sections r) ≡ q → Goes table row_count moves code n many copy leave again (after_value q (λ k. entry)) (pc + 3) b slots (end pc rows)
            (with_value p.line s q (λ k. one_step p.line s (each (positions ns) at_a_tuple k >>= (λ stores. Ok (store_all s p.array stores)))))
        by_limits (Ok k) e =
            let many' : k ≡ product ns = space-size ns (ds ∷ sections r) k e in
            goes-on table row_count moves code n many copy leave again [] entry (pc + 3) b b slots slots (end pc rows) (end (pc + 1) rows)
            (one_step p.line s (each (positions ns) at_a_tuple k >>= (λ stores. Ok (store_all s p.array stores)))) (omega arith)
            (λ i. (
              1,
              i,
              one table row_count moves code pc slots rows s.printed (Limits p) has.0 i
                  ∙ ap (λ q. record (end pc rows i) { control = go_on_if {A = ℕ} (at_line p.line q) (record { at = pc; slots = slots; status = Running }) }) (limits ∙ e),
              still table row_count moves code pc slots rows s.printed (Limits p) has.0 refl i,
            ))
            (kept-refl table row_count moves code n many copy b slots)
            (subst (λ k. Goes table row_count moves code n many copy leave again entry (pc + 3) b slots (end (pc + 1) rows)
            (one_step p.line s (each (positions ns) at_a_tuple k >>= (λ stores. Ok (store_all s p.array stores))))) (sym many') (par-goes (space-counted ns (ds ∷ sections r) k e)))
        by_limits (Err c) e =
            λ i. (
              _,
              (
                1,
                one table row_count moves code pc slots rows s.printed (Limits p) has.0 i
                    ∙ ap (λ q. record (end pc rows i) { control = go_on_if {A = ℕ} (at_line p.line q) (record { at = pc; slots = slots; status = Running }) }) (limits ∙ e),
                still table row_count moves code pc slots rows s.printed (Limits p) has.0 refl i,
              ),
              refl,
              refl,
              refl,
            )

module _ (table : ArrayTable) (row_count : ℕ) (moves : ℕ → List NewMapping) (code : List Instruction) (n many : ℕ) (copy : Option (List ℤ)) (leave again : ℕ) where
  -- what an assignment to a section passes
  abbrev pub assigned_trail : (line a : ℕ) (rs : SectionSubscripts) (t : Term) (masked : Bool) (beside : Option AnchorText) (shape : List Selection → List ℕ) → State → Trail
  assigned_trail line a rs t masked beside shape s =
      selections_trail line s rs ++ after_value (selections [] s rs) (λ ds.
      elemental_trail line s t ++ after_value (elemental [] s t) (λ r.
      after_value (space_size (shape ds) (ds ∷ sections r)) (λ k. reached line s (SectionAssigned masked beside (shape ds) a ds r))))

  abbrev pub left_trail : (line a : ℕ) (t : Term) (masked : Bool) (beside : Option AnchorText) (shape : List Selection → List ℕ) → State → List Selection → Trail
  left_trail line a t masked beside shape s ds =
      elemental_trail line s t ++ after_value (elemental [] s t) (λ r.
      after_value (space_size (shape ds) (ds ∷ sections r)) (λ k. reached line s (SectionAssigned masked beside (shape ds) a ds r)))

  -- an assignment to a section, over its own shape or over a mask's
  pub assignment-goes : (line b pc a : ℕ) (rs : SectionSubscripts) (t : Term) (m : Option Masking) (slots : List ℤ) (rows : Storage) (s : State)
      (shape : List Selection → List ℕ) (chosen : ℕ → Bool) → IsMaskCopy n (option_map (λ m. m.when) m)
      → (beside : Option AnchorText) → IsBeside n (assignment line b a rs t m).beside beside → IsForeknown beside → a < n → AreScalarSubscripts n rs → IsArray n t → HasAt code pc (assignment_code line b a rs t m)
      → n ≤ b → b + (subscripts_slots rs + parts_slots t) ≤ many → Holds table row_count moves code n many copy s slots rows
      → ((later : List ℤ) (ds : List Selection) → SameBelow b slots later → selections_in later (subs_of b rs) ≡ ds
      → extents (selections_in later (assignment line b a rs t m).over) ≡ shape ds)
      → ((ds : List Selection) (u : ℕ) (values : List ℤ) → u < product (shape ds) → is_asked (assignment line b a rs t m).mask
      (values_of rows (mask_reads (assignment line b a rs t m).mask u) ++ values) ≡ chosen u)
      → Goes table row_count moves code n many copy leave again (assigned_trail line a rs t (is_some (option_map (λ m. m.when) m)) beside shape s) (pc + length (assignment_code line b a rs t m)) b slots (stands table row_count moves code pc slots rows s.printed)
      (one_step line s (selections [] s rs >>= (λ ds. elemental [] s t >>= (λ r. assign_elemental (shape ds) chosen a ds r s))))
  assignment-goes line b pc a rs t m slots rows s shape chosen masks beside lies known la oks ok has le few holds over mask =
      let p = assignment line b a rs t m in
      let c1 = subscripts_code line b rs in
      let b1 : ℕ = b + subscripts_slots rs in
      let b2 : ℕ = b1 + parts_slots t in
      let c2 = parts_code line b1 t in
      let last = Limits p ∷ Par p ∷ Verdict ∷ [] in
      let pc1 : ℕ = pc + length c1 in
      let pc2 : ℕ = pc1 + length c2 in
      let to : ℕ = pc2 + 3 in
      let long : to ≡ pc + length (c1 ++ (c2 ++ last)) = omega (arith, length-append c1 (c2 ++ last), length-append c2 last) in
      let h1 : HasAt code pc1 (c2 ++ last) = has-back code pc c1 (c2 ++ last) has in
      goes-at table row_count moves code n many copy leave again (assigned_trail line a rs t (is_some (option_map (λ m. m.when) m)) beside shape s) to (pc + length (c1 ++ (c2 ++ last))) b slots (stands table row_count moves code pc slots rows s.printed)
      (one_step line s (selections [] s rs >>= (λ ds. elemental [] s t >>= (λ r. assign_elemental (shape ds) chosen a ds r s)))) long
      (subst (Goes table row_count moves code n many copy leave again (assigned_trail line a rs t (is_some (option_map (λ m. m.when) m)) beside shape s) to b slots (stands table row_count moves code pc slots rows s.printed))
      (sym (ends-bind line s (selections [] s rs) (λ ds. elemental [] s t >>= (λ r. assign_elemental (shape ds) chosen a ds r s))))
      (goes-value table row_count moves code n many copy leave again (selections_trail line s rs) (left_trail line a t (is_some (option_map (λ m. m.when) m)) beside shape s) line pc pc1 to b b1 slots rows s (SubsGive b1 (subs_of b rs)) (selections [] s rs)
      (λ ds. one_step line s (elemental [] s t >>= (λ r. assign_elemental (shape ds) chosen a ds r s))) (omega arith) le holds
      (subscripts-come table row_count moves code line n s rows s.printed holds.arrays rs pc b slots oks (has-front code pc c1 (c2 ++ last) has) holds.scalars le
      (omega (arith, few, holds.size)))
      (λ slots1 ds e1 same1 gives1 holds1.
      subst (Goes table row_count moves code n many copy leave again (left_trail line a t (is_some (option_map (λ m. m.when) m)) beside shape s ds) to b1 slots1 (stands table row_count moves code pc1 slots1 rows s.printed))
      (sym (ends-bind line s (elemental [] s t) (λ r. assign_elemental (shape ds) chosen a ds r s)))
      (goes-value table row_count moves code n many copy leave again (elemental_trail line s t) (λ r. after_value (space_size (shape ds) (ds ∷ sections r)) (λ k. reached line s (SectionAssigned (is_some (option_map (λ m. m.when) m)) beside (shape ds) a ds r))) line pc1 pc2 to b1 b2 slots1 rows s (FormGives n b2 (form_of b1 t)) (elemental [] s t)
      (λ r. one_step line s (assign_elemental (shape ds) chosen a ds r s)) (omega arith) (omega (arith, le)) holds1
      (parts-come table row_count moves code line n s rows s.printed holds1.arrays t pc1 b1 slots1 ok (has-front code pc1 c2 last h1) holds1.scalars (omega (arith, le))
      (omega (arith, few, holds1.size)))
      (λ slots2 r e2 same2 gives2 holds2.
      let left : selections_in slots2 (subs_of b rs) ≡ ds = gives1 slots2 same2 in
      assigned-goes table row_count moves code n many copy leave again p la masks beside lies known b2 pc2 (has-back code pc1 c2 last h1) slots2 rows s holds2 ds r (shape ds) chosen left
      (gives2.0 slots2 (same-refl b2 slots2)) (over slots2 ds (same-on b b b1 slots slots1 slots2 (omega arith) (omega arith) same1 same2) left) gives2.1 (mask ds))))))

  -- an assignment without a mask
  pub section-goes : (line b pc a : ℕ) (rs : SectionSubscripts) (t : Term) (slots : List ℤ) (rows : Storage) (s : State) → a < n → AreScalarSubscripts n rs → IsArray n t
      → HasAt code pc (assignment_code line b a rs t None) → n ≤ b → b + (subscripts_slots rs + parts_slots t) ≤ many
      → Holds table row_count moves code n many copy s slots rows → Goes table row_count moves code n many copy leave again (section_trail None None line a rs t s) (pc + length (assignment_code line b a rs t None)) b slots
      (stands table row_count moves code pc slots rows s.printed) (one_step line s (assign_section a rs t s))
  section-goes line b pc a rs t slots rows s la oks ok has le few holds = assignment-goes line b pc a rs t None slots rows s extents (λ u. true) (λ w e. cc) None (refl, tt) tt la oks ok has le few holds
      (λ later ds same e. ap extents e) (λ ds u values lt. refl)
