-- What the machine passes over the code of a nest: its parts between the making of its copies and its Verdict, and nothing else.
use Rattle.std.proofs.Common.{◌≡◌, ℕ, zero, suc, ◌+◌, ◌-◌, ◌<◌, ◌≤◌, ◌⊎◌, inl, inr, ⊎_elim, nat_lt, List, [], ◌∷◌, ◌++◌, length, map, ℤ, Bool, true, false, Option, Some, None, refl, sym, ap, ◌∙◌, subst, arith, slice_get, append-nil}
use Rattle.std.proofs.lemmas.Bool.{cases_lt}
use Rattle.std.proofs.lemmas.Bool.Decides.{nat_tests}
use Rattle.std.proofs.lemmas.List.{length-append}
use Rattle.array_meaning.specs.declared.sections.Selection.TheVariants.{Along}
use Rattle.array_meaning.specs.Faults.{Fault}
use Rattle.array_meaning.specs.State.{State, scalar}
use Rattle.array_meaning.specs.Statements.{Nest, Block}
use Rattle.array_meaning.specs.Iterations.{is_in, nest_axes}
use Rattle.statement_trail.specs.NestParts.{conditions_in, nest_anchor}
use Rattle.statement_trail.specs.Trail.{Trail, block_parts}
use Rattle.machine_steps.specs.Instr.{Status, Running, Finished, Faulted}
use Rattle.machine_steps.specs.Machine.{Machine, Kept, step, step_by, step_while, steps, instr_at, instr_of, verdict_control, last_control, last_of, on}
use Rattle.machine_steps.specs.SameLayouts.{is_same_layout}
use Rattle.node_run.proofs.Wholes.{same-code}
use Rattle.code_meaning.specs.Flat.{slot}
use Rattle.node_code.specs.Forms.{Sub}
use Rattle.node_code.specs.Anchors.{FlatAnchor}
use Rattle.code_meaning.specs.Forms.{selections_in}
use Rattle.node_code.specs.Instructions.{Instruction, NewMapping, MakeCopies, Verdict, FoldCopy, LastCopy}
use Rattle.code_meaning.specs.Instructions.{ArrayTable, meaning_of}
use Rattle.lowered_expressions.specs.Anchors.{IsAnchorText}
use Rattle.lowered_expressions.specs.Passed.{note_at, note_while, passed, passed_now, IsTrail}
use Rattle.lowered_expressions.proofs.Reach.{HasAt, has-front, has-back, steps-more, passed-more}
use Rattle.nest_syntax.specs.NestKinds.{has_copies}
use Rattle.nest_machine.specs.Body.{body_slots}
use Rattle.nest_syntax.specs.Finals.{Final, Folds, Lasts}
use Rattle.nest_machine.specs.Slots.{SameSlots, slots_after}
use Rattle.nest_machine.specs.Stands as places
use Rattle.nest_machine.specs.Stands.{StaysQuiet}
use Rattle.nest_machine.proofs.Slots.{same-refl}
use Rattle.nest_join.specs.NestLoops.{counting_at}
use Rattle.nest_join.specs.NestBodies.{body_of}
use Rattle.program_code.specs.NestInstructions.{count_nest, body_instructions, nest_instructions, finals_makes, conditions_makes, finals_instructions}
use Rattle.nest_join.specs.NestNames.{NestNames}
use Rattle.nest_join.specs.NestTexts.{text_of, test_of, HoldsEntry}
use Rattle.nest_join.specs.CodedBlocks.{IsCodedBlock, CodedBody, coded}
use Rattle.nest_join.proofs.RowPlaces.{lt-so}
use Rattle.program_code.specs.NestCode.{nest_beside, scalars, stored}
use Rattle.lowered_nests.specs.NamesIn.{names_in}
use Rattle.lowered_nests.proofs.Passing.{Rest, stands, Passes, passes-none, passes-on, passes-at, passes-one}
use Rattle.lowered_nests.proofs.NestPasses.{N, count-block, block-passes}

-- the places before one
abbrev pub is_before : ℕ → ℕ → Bool
is_before to at = nat_lt at to

lt-is : (a b : ℕ) → nat_lt a b ≡ true → a < b
lt-is a b h = grind (arith, nat_tests, h)

-- instructions at a place of the code are what they mean there, all before the place after them
pub has-meant : (table : ArrayTable) (code : List Instruction) (to pc : ℕ) (is : List Instruction) → pc + length is ≤ to → HasAt code pc is
    → places.HasAt (meaning_of table) code (is_before to) pc (map (meaning_of table) is)
has-meant table code to pc [] le h = tt
has-meant table code to pc (i ∷ is) le h = ((ap (instr_of (meaning_of table)) h.0, lt-so pc to (omega (arith, le))), has-meant table code to (pc + 1) is (omega (arith, le)) h.1)

-- ---- copies

abbrev AreMakes : List Instruction → Type 0
AreMakes [] = Unit {0}
AreMakes (MakeCopies copy over start beside ∷ is) = AreMakes is
AreMakes (i ∷ is) = ⊥

makes-both : (is js : List Instruction) → AreMakes is → AreMakes js → AreMakes (is ++ js)
makes-both [] js h g = g
makes-both (MakeCopies copy over start beside ∷ is) js h g = makes-both is js h g
makes-both (i ∷ is) js h g = absurd h

finals-make : (line : ℕ) (over : List Sub) (beside : Option FlatAnchor) (fs : List Final) → AreMakes (finals_makes line over beside fs)
finals-make line over beside [] = tt
finals-make line over beside (Folds j r x ∷ fs) = finals-make line over beside fs
finals-make line over beside (Lasts r q x ∷ fs) = finals-make line over beside fs

conditions-make : (line : ℕ) (over : List Sub) (beside : Option FlatAnchor) (first count : ℕ) → AreMakes (conditions_makes line over beside first count)
conditions-make line over beside first zero = tt
conditions-make line over beside first (suc count) = makes-both (conditions_makes line over beside first count) _ (conditions-make line over beside first count) tt

module _ (table : ArrayTable) (moves : ℕ → List NewMapping) (code : List Instruction) (last : ℕ) where
  makes-pass : (is : List Instruction) (pc : ℕ) (s : List ℤ) → AreMakes is → HasAt code pc is → pc + length is ≤ last → Passes table moves code last [] pc s (pc + length is) s
  makes-pass [] pc s are has le = let e : pc ≡ pc + 0 = omega arith in passes-at table moves code last [] pc pc (pc + 0) s s e (passes-none table moves code last pc s)
  makes-pass (MakeCopies copy over start beside ∷ is) pc s are has le =
      let e : pc + 1 + length is ≡ pc + suc (length is) = omega arith in
      passes-on table moves code last [] [] pc (pc + 1) (pc + suc (length is)) s s s
      (passes-one table moves code last [] pc (pc + 1) s s (MakeCopies copy over start beside) has.0 (omega (arith, le)) (λ r. refl) tt)
      (passes-at table moves code last [] (pc + 1) (pc + 1 + length is) (pc + suc (length is)) s s e (makes-pass is (pc + 1) s are has.1 (omega (arith, le))))
  makes-pass (i ∷ is) pc s are has le = absurd are

-- ---- the end

-- the Verdict and what gives the scalars their values
abbrev IsEnding : Instruction → Type 0
IsEnding Verdict = Unit {0}
IsEnding (FoldCopy copy j x) = Unit {0}
IsEnding (LastCopy copy set x) = Unit {0}
IsEnding i = ⊥

abbrev AreEnding : List Instruction → Type 0
AreEnding [] = Unit {0}
AreEnding (i ∷ is) = IsEnding i × AreEnding is

finals-end : (line : ℕ) (fs : List Final) → AreEnding (finals_instructions line fs)
finals-end line [] = tt
finals-end line (Folds j r x ∷ fs) = (tt, finals-end line fs)
finals-end line (Lasts r q x ∷ fs) = (tt, finals-end line fs)

not-noted : (i : Instruction) → IsEnding i → (k : ℕ) (slots : List ℤ) → note_at k (Some i) slots ≡ []
not-noted Verdict h zero slots = refl
not-noted Verdict h (suc k) slots = refl
not-noted (FoldCopy copy j x) h zero slots = refl
not-noted (FoldCopy copy j x) h (suc k) slots = refl
not-noted (LastCopy copy set x) h zero slots = refl
not-noted (LastCopy copy set x) h (suc k) slots = refl
not-noted i h k slots = absurd h

module _ (table : ArrayTable) (code : List Instruction) where
  not-back : (i : Instruction) → IsEnding i → (m : Machine Instruction Fault) → m.control.at ≤ (step_by (meaning_of table i) m).control.at
  not-back Verdict h m = by_kept m.kept
    where
      by_kept : (o : Option (Kept Fault)) → m.control.at ≤ (verdict_control o on m.control).at
      by_kept None = omega arith
      by_kept (Some k) = omega arith
  not-back (FoldCopy copy j x) h m = omega arith
  not-back (LastCopy copy set x) h m = by_last (last_of is_same_layout m.layouts m.rows copy set)
    where
      by_last : (o : Option ℤ) → m.control.at ≤ (last_control o x m.control).at
      by_last None = omega arith
      by_last (Some v) = omega arith
  not-back i h m = absurd h

  ending-at : (is : List Instruction) (first at : ℕ) → HasAt code first is → AreEnding is → first ≤ at → at < first + length is → (i : Instruction) × (slice_get code at ≡ Some i) × IsEnding i
  ending-at [] first at has are le lt = absurd (omega (arith, le, lt))
  ending-at (i ∷ is) first at has are le lt =
      ⊎_elim (λ (less : first < at). ending-at is (first + 1) at has.1 are.1 (omega (arith, less)) (omega (arith, lt)))
      (λ (not_less : at ≤ first). (let e : first ≡ at = omega (arith, le, not_less) in (i, ap (slice_get code) (sym e) ∙ has.0, are.0))) (cases_lt first at)

  module _ (is : List Instruction) (first : ℕ) (has : HasAt code first is) (are : AreEnding is) where
    next : (m : Machine Instruction Fault) → m.code ≡ code → first ≤ m.control.at → m.control.at < first + length is → (passed_now m ≡ []) × ((step (meaning_of table) m).code ≡ code)
        × (first ≤ (step (meaning_of table) m).control.at)
    next m e le lt = by_status m.control.status
      where
        here : (i : Instruction) × (slice_get code m.control.at ≡ Some i) × IsEnding i
        here = ending-at is first m.control.at has are le lt

        there : slice_get m.code m.control.at ≡ Some here.0
        there = ap (λ c. slice_get c m.control.at) e ∙ here.1

        by_status : (s : Status Fault) → (note_while s m.substep (slice_get m.code m.control.at) m.control.slots ≡ []) × ((step_while (meaning_of table) s m).code ≡ code)
            × (first ≤ (step_while (meaning_of table) s m).control.at)
        by_status Running = (
          ap (λ o. note_at m.substep o m.control.slots) there ∙ not-noted here.0 here.2 m.substep m.control.slots,
          same-code 0 [] (instr_at (meaning_of table) m.code m.control.at) m ∙ e,
          subst (λ o. first ≤ (step_by (instr_of (meaning_of table) o) m).control.at) (sym there) (let z = not-back here.0 here.2 m in omega (arith, z, le)),
        )
        by_status Finished = (refl, e, le)
        by_status (Faulted f) = (refl, e, le)

    -- nothing is passed from there on
    pub none-passed : (k : ℕ) (m : Machine Instruction Fault) → m.code ≡ code → first ≤ m.control.at → ((j : ℕ) → j < k → (steps (meaning_of table) j m).control.at < first + length is)
        → passed table k m ≡ []
    none-passed zero m e le lt = refl
    none-passed (suc k) m e le lt =
        let n = next m e le (lt 0 (omega arith)) in
        ap (λ ps. ps ++ passed table k (step (meaning_of table) m)) n.0 ∙ none-passed k (step (meaning_of table) m) n.1 n.2 (λ j less. lt (suc j) (omega (arith, less)))

-- ---- a whole nest

module _ (table : ArrayTable) (moves : ℕ → List NewMapping) (code : List Instruction) (line n : ℕ) (nest : Nest) (body : Block) (over : List Sub) (is_index : ℕ → Bool) (b pc : ℕ)
    (entry : List ℤ) (s : State) (holds : HoldsEntry (names_in table n nest body over is_index) b entry s) (outside : (x : ℕ) → b ≤ x → is_index x ≡ false)
    (assigned : (k : ℕ) → has_copies ((names_in table n nest body over is_index).kinds k) ≡ true → is_in k (scalars n nest body) ≡ true)
    (tuples : (slots : List ℤ) → SameSlots is_index b entry slots → selections_in slots over ≡ map Along (nest_axes s nest))
    (anchored : IsAnchorText n (nest_anchor nest body)) (slots : (k : ℕ) → k < n → slot entry k ≡ scalar s k) (ok : IsCodedBlock (names_in table n nest body over is_index) s [] body) (fs : List Final) where
  abbrev w : NestNames
  w = names_in table n nest body over is_index

  abbrev x : CodedBody w
  x = coded w s [] body ok

  abbrev beside : Option FlatAnchor
  beside = nest_beside nest body

  abbrev makes : List Instruction
  makes = finals_makes line over beside fs ++ conditions_makes line over beside (stored n nest body) (count_nest x)

  abbrev statements : List Instruction
  statements = body_instructions line over beside (text_of w) (test_of w) (stored n nest body) x None 0 b (pc + length makes)

  abbrev ending : List Instruction
  ending = Verdict ∷ finals_instructions line fs

  -- the place of the Verdict
  abbrev last : ℕ
  last = pc + length makes + length statements

  abbrev T : Trail
  T = block_parts (N table moves code last line n nest body over is_index b (conditions_in body) entry s holds outside assigned tuples anchored) None 0 body s

  abbrev instructions : List Instruction
  instructions = nest_instructions line over beside (text_of w) (test_of w) (stored n nest body) fs x b pc

  module _ (room : b + body_slots (body_of x) ≤ length entry) (has : HasAt code pc instructions) where
    has_after : HasAt code (pc + length makes) (statements ++ ending)
    has_after = has-back code pc makes (statements ++ ending) has

    count : count_nest x ≡ conditions_in body
    count = count-block table moves code last line n nest body over is_index b (conditions_in body) entry s holds outside assigned tuples anchored [] body ok

    parts-pass : Passes table moves code last T pc entry last (slots_after (counting_at line) (body_of x) b entry)
    parts-pass =
        passes-on table moves code last [] T pc (pc + length makes) last entry entry (slots_after (counting_at line) (body_of x) b entry)
        (makes-pass table moves code last makes pc entry
        (makes-both (finals_makes line over beside fs) (conditions_makes line over beside (stored n nest body) (count_nest x)) (finals-make line over beside fs)
        (conditions-make line over beside (stored n nest body) (count_nest x)))
        (has-front code pc makes (statements ++ ending) has) (omega arith))
        (block-passes table moves code last line n nest body over is_index b (conditions_in body) entry s holds outside assigned tuples anchored [] body ok None 0 b (pc + length makes) entry s (omega arith)
        (record { same = same-refl is_index b entry; scalars = slots; long = holds.scalars }) tt room (let c = count in omega (arith, c)) (has-front code (pc + length makes) statements ending has_after)
        (omega arith)).0

    long : length instructions ≡ length makes + length statements + length ending
    long = let a = length-append makes (statements ++ ending) in let c = length-append statements ending in omega (arith, a, c)

    -- a run that comes to no place after the code, and ends with a fault or after it, passes the parts
    pub trail-passed : (r : Rest) (k : ℕ) → StaysQuiet (meaning_of table) (is_before (pc + length instructions)) k (stands table moves code last pc entry r)
        → ((steps (meaning_of table) k (stands table moves code last pc entry r)).control.at ≡ pc + length instructions)
        ⊎ ((f : Fault) × ((steps (meaning_of table) k (stands table moves code last pc entry r)).control.status ≡ Faulted f))
        → IsTrail moves (passed table k (stands table moves code last pc entry r)) T
    trail-passed r k quiet ends =
        let m : Machine Instruction Fault = stands table moves code last pc entry r in
        let run = parts-pass r in
        let m1 : Machine Instruction Fault = stands table moves code last last (slots_after (counting_at line) (body_of x) b entry) run.1 in
        let le : run.0 ≤ k = ⊎_elim (λ (lt : k < run.0). absurd (too-soon (steps (meaning_of table) k m) (run.4 k lt) ends)) (λ (z : run.0 ≤ k). z) (cases_lt k run.0) in
        let d : ℕ = k - run.0 in
        let all : d + run.0 ≡ k = omega (arith, le) in
        let none : passed table d m1 ≡ [] =
        none-passed table code ending last (has-back code (pc + length makes) statements ending has_after) (tt, finals-end line fs) d m1 refl (omega arith)
        (λ j less. inside j (run.0) m1 m (sym run.2) (quiet (j + run.0) (omega (arith, less, all)))) in
        subst (λ j. IsTrail moves (passed table j m) T) all
        (subst (λ ps. IsTrail moves ps T)
        (sym (passed-more table 0 moves code run.0 d m ∙ ap (λ z. passed table run.0 m ++ passed table d z) run.2 ∙ ap (λ ps. passed table run.0 m ++ ps) none ∙ append-nil (passed table run.0 m))) run.3)
      where
        too-soon : (z : Machine Instruction Fault) → (z.control.status ≡ Running) × (z.control.at < last)
            → (z.control.at ≡ pc + length instructions) ⊎ ((f : Fault) × (z.control.status ≡ Faulted f)) → ⊥
        too-soon z within (inl e) = let g = within.1 in let l = long in omega (arith, e, g, l)
        too-soon z within (inr f) = let e : Running ≡ Faulted f.0 = sym within.0 ∙ f.1 in cc

        inside : (j k : ℕ) (m1 m : Machine Instruction Fault) → m1 ≡ steps (meaning_of table) k m → is_before (pc + length instructions) (steps (meaning_of table) (j + k) m).control.at ≡ true
            → (steps (meaning_of table) j m1).control.at < last + length ending
        inside j k m1 m e h =
            let at : (steps (meaning_of table) j m1).control.at ≡ (steps (meaning_of table) (j + k) m).control.at =
            ap (λ z. (steps (meaning_of table) j z).control.at) e ∙ ap (λ (z : Machine Instruction Fault). z.control.at) (sym (steps-more table 0 moves code k j m)) in
            let lt = lt-is (steps (meaning_of table) (j + k) m).control.at (pc + length instructions) h in
            let l = long in
            omega (arith, at, lt, l)
