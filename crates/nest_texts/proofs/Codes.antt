-- The instructions of a nest mean what its code is.
use Rattle.std.proofs.Common.{◌≡◌, ℕ, zero, suc, ◌+◌, List, [], ◌∷◌, ◌++◌, length, map, ℤ, pos, Bool, true, false, if◌then◌else◌, Option, Some, None, refl, sym, ap, ◌∙◌}
use Rattle.std.proofs.lemmas.List.{length-map, map-append}
use Rattle.op_tables.specs.declared.op.Op.TheVariants as op
use Rattle.op_tables.specs.Joins.{unit}
use Rattle.op_tables.specs.Operators.{is_true}
use Rattle.array_meaning.specs.Faults.{Fault}
use Rattle.machine_steps.specs.Layout.{Layout}
use Rattle.machine_steps.specs.Instr as machine
use Rattle.machine_steps.specs.Instr.{Control, Instr, Local, Par}
use Rattle.machine_steps.specs.Machine.{on, set_slot}
use Rattle.machine_steps.specs.SameLayouts.{is_same_layout}
use Rattle.node_code.specs.Flat.{Flat, Int, Slot, Operated, NoFlat, AndFlat}
use Rattle.code_meaning.specs.Flat.{slot, slots_value}
use Rattle.node_code.specs.Forms.{Sub}
use Rattle.node_code.specs.Anchors.{FlatAnchor}
use Rattle.code_meaning.specs.Parallel.{at_line}
use Rattle.code_meaning.specs.NestStatements.{iterations_at}
use Rattle.code_meaning.specs.Instructions.{ArrayTable, set_result, go_if, meaning_of}
use Rattle.node_code.specs.Instructions.{Instruction, MakeCopies, Set, Jump, Verdict, FoldCopy, LastCopy}
use Rattle.nest_machine.specs.Body.{count_body, count_arms}
use Rattle.nest_syntax.specs.Asked.{guard_asked, tested_asked}
use Rattle.nest_machine.specs.BodyCode.{Texts, copy_spot, mark_code, text_code, test_tuples, loop_code, body_code, arms_code}
use Rattle.nest_syntax.specs.Finals.{Final, Folds, Lasts}
use Rattle.nest_machine.specs.Finals.{finals_code}
use Rattle.nest_machine.specs.Entries.{Entry, finals_entries, conditions_entries, nest_entries, entries_code, nest_code}
use Rattle.program_code.specs.NestTexts.{NestText, NestTest}
use Rattle.nest_texts.specs.NestTexts.{nest_texts}
use Rattle.nest_texts.proofs.Statements.{assigning-means, testing-means, setting-else, setting-mark}
use Rattle.nest_texts.specs.NestLoops.{counting_at}
use Rattle.nest_texts.specs.NestBodies.{nest_layout, bounds_of, body_of, arms_of, CantFault, AreSafe, ArmsAreSafe}
use Rattle.program_code.specs.NestInstructions.{FlatBounds, NestBody, NoText, AndText, AndIf, AndLoop, NestArms, NoArm, AndArm, count_nest, count_nest_arms, tail_instructions, loop_instructions, finals_instructions, finals_makes, conditions_makes, mark_instructions, text_instructions, test_instruction, body_instructions, arms_instructions, nest_instructions}

set-safe : (line x : ℕ) (f : Flat) → CantFault f → (table : ArrayTable) → meaning_of table (Set line x f) ≡ Local (λ c. set_slot c x (slots_value c.slots f))
set-safe line x f safe table = λ i. Local (λ (c : Control Fault). set_result (at_line line (safe c.slots i)) x c)

go-if : (t : Bool) (target : ℕ) (c : Control Fault) → go_if t target c ≡ (if t then on c else record c { at = target })
go-if true target c = refl
go-if false target c = refl

module _ {A C : Type 0} where
  mutual
    counts-same : (body : NestBody A C) → count_nest body ≡ count_body (body_of body)
    counts-same NoText = refl
    counts-same (AndText a rest) = counts-same rest
    counts-same (AndIf arms rest) = λ j. arms-same arms j + counts-same rest j
    counts-same (AndLoop bounds inner rest) = λ j. counts-same inner j + counts-same rest j

    arms-same : (arms : NestArms A C) → count_nest_arms arms ≡ count_arms (arms_of arms)
    arms-same NoArm = refl
    arms-same (AndArm test body others) = λ j. 1 + counts-same body j + arms-same others j

module _ (table : ArrayTable) (line : ℕ) where
  abbrev means : List Instruction → List (Instr Fault)
  means = map (meaning_of table)

  -- one piece of code after another
  both-mean : (is js : List Instruction) (cs ds : List (Instr Fault)) → means is ≡ cs → means js ≡ ds → means (is ++ js) ≡ cs ++ ds
  both-mean is js cs ds h g = map-append (meaning_of table) is js ∙ (λ j. h j ++ g j)

  same-length : (is : List Instruction) (cs : List (Instr Fault)) → means is ≡ cs → length is ≡ length cs
  same-length is cs h = sym (length-map is (meaning_of table)) ∙ ap length h

  -- ---- inner loops

  loop-means : (bounds : FlatBounds) (b pc : ℕ) (body : List Instruction) (bcode : List (Instr Fault)) → CantFault bounds.first × CantFault bounds.last × CantFault bounds.step
      → means body ≡ bcode → means (loop_instructions line bounds b pc body) ≡ loop_code (counting_at line) (bounds_of bounds) b pc bcode
  loop-means bounds b pc body bcode safe h =
      let l : length body ≡ length bcode = same-length body bcode h in
      let tail : List Instruction = tail_instructions line bounds b (pc + 5) (pc + 5 + length body + 5) in
      λ j. set-safe line b bounds.first safe.0 table j
      ∷ set-safe line (b + 1) bounds.last safe.1 table j
      ∷ set-safe line (b + 2) bounds.step safe.2 table j
      ∷ meaning_of table (Set line bounds.index (Slot b))
      ∷ Local ((counting_at line).trips b (pc + 5 + l j + 5))
      ∷ (map-append (meaning_of table) body tail
      ∙ (λ k. h k
      ++ meaning_of table (Set line b (Operated op.Add (AndFlat (Slot b) (AndFlat (Slot (b + 2)) NoFlat))))
      ∷ meaning_of table (Set line bounds.index (Slot b))
      ∷ Local (λ (c : Control Fault). go-if (is_true (slot c.slots (b + 3))) (pc + 5 + l k + 5) c k)
      ∷ meaning_of table (Set line (b + 3) (Operated op.Sub (AndFlat (Slot (b + 3)) (AndFlat (Int (pos 1)) NoFlat))))
      ∷ meaning_of table (Jump (pc + 5)) ∷ [])) j

  -- ---- the end of a nest, and its copies

  finals-mean : (fs : List Final) → means (finals_instructions line fs) ≡ finals_code is_same_layout fs
  finals-mean [] = refl
  finals-mean (Folds y r x ∷ fs) = λ j. meaning_of table (FoldCopy r y x) ∷ finals-mean fs j
  finals-mean (Lasts r q x ∷ fs) = λ j. meaning_of table (LastCopy r q x) ∷ finals-mean fs j

  module _ (over : List Sub) (beside : Option FlatAnchor) where
    abbrev layout : List Layout → List ℤ → Layout
    layout = nest_layout table over beside

    entries-append : (xs ys : List Entry) → entries_code {F = Fault} layout (xs ++ ys) ≡ entries_code layout xs ++ entries_code layout ys
    entries-append [] ys = refl
    entries-append (e ∷ xs) ys = ap (λ cs. machine.MakeCopy e.row layout e.start ∷ cs) (entries-append xs ys)

    makes-mean : (fs : List Final) → means (finals_makes line over beside fs) ≡ entries_code layout (finals_entries fs)
    makes-mean [] = refl
    makes-mean (Folds y r x ∷ fs) = λ j. meaning_of table (MakeCopies r over (Int (unit y)) beside) ∷ makes-mean fs j
    makes-mean (Lasts r q x ∷ fs) = λ j. meaning_of table (MakeCopies r over (Slot x) beside) ∷ meaning_of table (MakeCopies q over (Int (pos 0)) beside) ∷ makes-mean fs j

    conditions-mean : (stored count : ℕ) → means (conditions_makes line over beside stored count) ≡ entries_code layout (conditions_entries stored count)
    conditions-mean stored zero = refl
    conditions-mean stored (suc count) =
        map-append (meaning_of table) (conditions_makes line over beside stored count) (MakeCopies (stored + count) over (Int (pos 0)) beside ∷ [])
        ∙ (λ j. conditions-mean stored count j ++ meaning_of table (MakeCopies (stored + count) over (Int (pos 0)) beside) ∷ [])
        ∙ sym (entries-append (conditions_entries stored count) (record { row = stored + count; start = λ s. pos 0 } ∷ []))

    -- ---- bodies

    module _ {A C : Type 0} (text_of : A → NestText) (test_of : C → NestTest) (stored : ℕ) where
      abbrev texts : Texts A C Fault
      texts = nest_texts table.shapes over text_of test_of

      abbrev Is : NestBody A C → Option ℕ → (k b pc : ℕ) → List Instruction
      Is = body_instructions line over beside text_of test_of stored

      abbrev ArmsIs : NestArms A C → Option ℕ → List ℕ → (k b pc : ℕ) → List Instruction
      ArmsIs = arms_instructions line over beside text_of test_of stored

      abbrev TextIs : Option ℕ → A → List Instruction
      TextIs = text_instructions line over beside text_of test_of stored

      abbrev Code : NestBody A C → Option ℕ → (k b pc : ℕ) → List (Instr Fault)
      Code body = body_code texts (counting_at line) (iterations_at over) layout stored (body_of body)

      abbrev ArmsCode : NestArms A C → Option ℕ → List ℕ → (k b pc : ℕ) → List (Instr Fault)
      ArmsCode arms = arms_code texts (counting_at line) (iterations_at over) layout stored (arms_of arms)

      marks-mean : (guard o : Option ℕ) → means (mark_instructions line over beside text_of test_of stored guard o) ≡ mark_code texts (iterations_at over) stored guard o
      marks-mean guard None = refl
      marks-mean guard (Some r) = λ j. setting-mark table.shapes over beside stored (guard_asked guard) r j ∷ []

      text-means : (guard : Option ℕ) (a : A) → means (TextIs guard a) ≡ text_code texts (iterations_at over) stored guard a
      text-means guard a = λ j. assigning-means table.shapes over beside stored (guard_asked guard) (text_of a) j ∷ marks-mean guard (text_of a).mark j

      test-means : (guard : Option ℕ) (earlier : List ℕ) (test : Option C) (k : ℕ)
          → meaning_of table (test_instruction line over beside text_of test_of stored (tested_asked guard earlier) test (stored + k))
          ≡ Par (test_tuples texts (iterations_at over) stored guard earlier test) (copy_spot (stored + k))
      test-means guard earlier None k = setting-else table.shapes over beside stored (tested_asked guard earlier) (stored + k)
      test-means guard earlier (Some c) k = testing-means table.shapes over beside stored (tested_asked guard earlier) (test_of c) (stored + k)

      mutual
        body-means : (body : NestBody A C) → AreSafe body → (guard : Option ℕ) (k b pc : ℕ) → means (Is body guard k b pc) ≡ Code body guard k b pc
        body-means NoText safe guard k b pc = refl
        body-means (AndText a rest) safe guard k b pc =
            let c = TextIs guard a in
            let d = text_code texts (iterations_at over) stored guard a in
            let l : length c ≡ length d = same-length c d (text-means guard a) in
            both-mean c (Is rest guard k b (pc + length c)) d (Code rest guard k b (pc + length d)) (text-means guard a)
            (body-means rest safe guard k b (pc + length c) ∙ ap (λ n. Code rest guard k b (pc + n)) l)
        body-means (AndIf arms rest) safe guard k b pc =
            let c = ArmsIs arms guard [] k b pc in
            let d = ArmsCode arms guard [] k b pc in
            let h : means c ≡ d = arms-mean arms safe.0 guard [] k b pc in
            let l : length c ≡ length d = same-length c d h in
            both-mean c (Is rest guard (k + count_nest_arms arms) b (pc + length c)) d (Code rest guard (k + count_arms (arms_of arms)) b (pc + length d)) h
            (body-means rest safe.1 guard (k + count_nest_arms arms) b (pc + length c) ∙ (λ j. Code rest guard (k + arms-same arms j) b (pc + l j)))
        body-means (AndLoop bounds inner rest) safe guard k b pc =
            let i = Is inner guard k (b + 4) (pc + 5) in
            let e = Code inner guard k (b + 4) (pc + 5) in
            let c = loop_instructions line bounds b pc i in
            let d = loop_code (counting_at line) (bounds_of bounds) b pc e in
            let h : means c ≡ d = loop-means bounds b pc i e safe.0 (body-means inner safe.1 guard k (b + 4) (pc + 5)) in
            let l : length c ≡ length d = same-length c d h in
            both-mean c (Is rest guard (k + count_nest inner) b (pc + length c)) d (Code rest guard (k + count_body (body_of inner)) b (pc + length d)) h
            (body-means rest safe.2 guard (k + count_nest inner) b (pc + length c) ∙ (λ j. Code rest guard (k + counts-same inner j) b (pc + l j)))

        arms-mean : (arms : NestArms A C) → ArmsAreSafe arms → (guard : Option ℕ) (earlier : List ℕ) (k b pc : ℕ)
            → means (ArmsIs arms guard earlier k b pc) ≡ ArmsCode arms guard earlier k b pc
        arms-mean NoArm safe guard earlier k b pc = refl
        arms-mean (AndArm test body others) safe guard earlier k b pc =
            let c = Is body (Some k) (k + 1) b (pc + 2) in
            let d = Code body (Some k) (k + 1) b (pc + 2) in
            let h : means c ≡ d = body-means body safe.0 (Some k) (k + 1) b (pc + 2) in
            let l : length c ≡ length d = same-length c d h in
            let rest : means (c ++ ArmsIs others guard (k ∷ earlier) (k + 1 + count_nest body) b (pc + 2 + length c))
            ≡ d ++ ArmsCode others guard (k ∷ earlier) (k + 1 + count_body (body_of body)) b (pc + 2 + length d) =
            both-mean c (ArmsIs others guard (k ∷ earlier) (k + 1 + count_nest body) b (pc + 2 + length c)) d
            (ArmsCode others guard (k ∷ earlier) (k + 1 + count_body (body_of body)) b (pc + 2 + length d)) h
            (arms-mean others safe.1 guard (k ∷ earlier) (k + 1 + count_nest body) b (pc + 2 + length c)
            ∙ (λ j. ArmsCode others guard (k ∷ earlier) (k + 1 + counts-same body j) b (pc + 2 + l j))) in
            λ j. meaning_of table (MakeCopies (stored + k) over (Int (pos 0)) beside) ∷ test-means guard earlier test k j ∷ rest j

      pub nest-means : (finals : List Final) (body : NestBody A C) (b pc : ℕ) → AreSafe body
          → means (nest_instructions line over beside text_of test_of stored finals body b pc)
          ≡ nest_code texts (counting_at line) (iterations_at over) layout stored is_same_layout finals (body_of body) b pc
      nest-means finals body b pc safe =
          let c = finals_makes line over beside finals ++ conditions_makes line over beside stored (count_nest body) in
          let d = entries_code {F = Fault} layout (nest_entries finals stored (count_body (body_of body))) in
          let h : means c ≡ d =
          map-append (meaning_of table) (finals_makes line over beside finals) (conditions_makes line over beside stored (count_nest body))
          ∙ (λ j. makes-mean finals j ++ (conditions-mean stored (count_nest body) ∙ (λ k. entries_code layout (conditions_entries stored (counts-same body k)))) j)
          ∙ sym (entries-append (finals_entries finals) (conditions_entries stored (count_body (body_of body)))) in
          let l : length c ≡ length d = same-length c d h in
          both-mean c (Is body None 0 b (pc + length c) ++ Verdict ∷ finals_instructions line finals) d
          (Code body None 0 b (pc + length d) ++ machine.Verdict ∷ finals_code is_same_layout finals) h
          (both-mean (Is body None 0 b (pc + length c)) (Verdict ∷ finals_instructions line finals) (Code body None 0 b (pc + length d))
          (machine.Verdict ∷ finals_code is_same_layout finals) (body-means body safe None 0 b (pc + length c) ∙ ap (λ n. Code body None 0 b (pc + n)) l)
          (λ j. machine.Verdict ∷ finals-mean finals j))
