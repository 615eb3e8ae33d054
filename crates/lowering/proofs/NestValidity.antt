-- The code of a nest is one that nodes can run, and it names what there is.
use Rattle.std.proofs.Common.{ℕ, zero, suc, ◌+◌, ◌<◌, ◌≤◌, List, [], ◌∷◌, ◌++◌, length, length-append, pos, Option, Some, None, arith}
use Rattle.std.specs.Bool.{⊤}
use Rattle.std.specs.List.{AllByRecursion}
use Rattle.op_tables.specs.declared.join.Join.{Join}
use Rattle.op_tables.specs.declared.op.Op.TheVariants as op
use Rattle.node_code.specs.Flat.{Flat, Slot, Int, Axis, Read, Operated, NoFlat, AndFlat}
use Rattle.node_code.specs.Anchors.{FlatAnchor}
use Rattle.node_code.specs.Forms.{Sub}
use Rattle.node_code.specs.Parallel.{When}
use Rattle.node_code.specs.NestStatements.{NestStatement}
use Rattle.code_meaning.specs.ValidCode.{CodeTable, IsAnchor, IsCopy, IsFlat, IsValue, IsSpace, IsNestForm, IsNestLeft, IsValid}
use Rattle.node_code.specs.Instructions.{Instruction, Set, Trips, Jump, JumpIfZero, Verdict, FoldCopy, LastCopy, ParNest, MakeCopies}
use Rattle.nest_syntax.specs.Asked.{Asked, guard_asked, none_asked, tested_asked}
use Rattle.nest_syntax.specs.Finals.{Final, Folds, Lasts}
use Rattle.program_code.specs.NestTexts.{NestText, NestTest}
use Rattle.program_code.specs.NestInstructions.{FlatBounds, NestBody, NoText, AndText, AndIf, AndLoop, NestArms, NoArm, AndArm, count_nest, count_nest_arms, slots_of_nest, slots_of_arms, whens_of, tail_instructions, text_instructions, mark_instructions, test_instruction, loop_instructions, body_instructions, arms_instructions, nest_instructions, finals_makes, conditions_makes, finals_instructions}

-- ---- a property of instructions

pub both : {A : Type 0} (P : A → Type 0) (xs ys : List A) → AllByRecursion P xs → AllByRecursion P ys → AllByRecursion P (xs ++ ys)
both P [] ys h g = g
both P (x ∷ xs) ys h g = (h.0, both P xs ys h.1 g)

-- it is one of all that stand in the code of a nest of a line, where copies have rows from `least` on
pub record IsOfNests (P : Instruction → Type 0) (line least : ℕ) : Type 0 where
  pub set : (x : ℕ) (f : Flat) → P (Set line x f)
  pub trips : (first last step left target : ℕ) → P (Trips line first last step left target)
  pub jump : (target : ℕ) → P (Jump target)
  pub jump_if : (target x : ℕ) → P (JumpIfZero target x)
  pub par : (p : NestStatement) → P (ParNest p)
  pub makes : (copy : ℕ) (over : List Sub) (start : Flat) (beside : Option FlatAnchor) → least ≤ copy → P (MakeCopies copy over start beside)
  pub verdict : P Verdict
  pub folds : (copy : ℕ) (j : Join) (x : ℕ) → P (FoldCopy copy j x)
  pub lasts : (copy set x : ℕ) → P (LastCopy copy set x)

-- the rows of a final's copies
abbrev pub IsFinalFrom : ℕ → Final → Type 0
IsFinalFrom least (Folds j r x) = least ≤ r
IsFinalFrom least (Lasts r q x) = (least ≤ r) × (least ≤ q)

module _ (P : Instruction → Type 0) (line least : ℕ) (each : IsOfNests P line least) (over : List Sub) (beside : Option FlatAnchor) where
  abbrev Each : List Instruction → Type 0
  Each = AllByRecursion P

  each-final : (fs : List Final) → Each (finals_instructions line fs)
  each-final [] = tt
  each-final (Folds j r x ∷ fs) = (each.folds r j x, each-final fs)
  each-final (Lasts r q x ∷ fs) = (each.lasts r q x, each-final fs)

  each-made : (fs : List Final) → AllByRecursion (IsFinalFrom least) fs → Each (finals_makes line over beside fs)
  each-made [] h = tt
  each-made (Folds j r x ∷ fs) h = (each.makes r over _ beside h.0, each-made fs h.1)
  each-made (Lasts r q x ∷ fs) h = (each.makes r over _ beside h.0.0, (each.makes q over _ beside h.0.1, each-made fs h.1))

  each-condition : (stored count : ℕ) → least ≤ stored → Each (conditions_makes line over beside stored count)
  each-condition stored zero le = tt
  each-condition stored (suc count) le = both P (conditions_makes line over beside stored count) _ (each-condition stored count le) (each.makes (stored + count) over _ beside (omega (arith, le)), tt)

  each-loop : (bounds : FlatBounds) (b pc : ℕ) (body : List Instruction) → Each body → Each (loop_instructions line bounds b pc body)
  each-loop bounds b pc body h = (
    each.set _ _,
    (
      each.set _ _,
      (
        each.set _ _,
        (
          each.set _ _,
          (
            each.trips _ _ _ _ _,
            both P body _ h (each.set _ _, (each.set _ _, (each.jump_if _ _, (each.set _ _, (each.jump _, tt))))),
          ),
        ),
      ),
    ),
  )

  module _ {A C : Type 0} (text_of : A → NestText) (test_of : C → NestTest) (stored : ℕ) (le : least ≤ stored) where
    each-mark : (guard o : Option ℕ) → Each (mark_instructions line over beside text_of test_of stored guard o)
    each-mark guard None = tt
    each-mark guard (Some r) = (each.par _, tt)

    each-test : (earlier : List ℕ) (guard : Option ℕ) (c : Option C) (copy : ℕ) → P (test_instruction line over beside text_of test_of stored (tested_asked guard earlier) c copy)
    each-test earlier guard None copy = each.par _
    each-test earlier guard (Some c) copy = each.par _

    mutual
      each-body : (body : NestBody A C) (guard : Option ℕ) (k b pc : ℕ) → Each (body_instructions line over beside text_of test_of stored body guard k b pc)
      each-body NoText guard k b pc = tt
      each-body (AndText a rest) guard k b pc =
          (each.par _, both P (mark_instructions line over beside text_of test_of stored guard (text_of a).mark) _ (each-mark guard (text_of a).mark) (each-body rest guard k b _))
      each-body (AndIf arms rest) guard k b pc =
          both P (arms_instructions line over beside text_of test_of stored arms guard [] k b pc) _ (each-arms arms guard [] k b pc) (each-body rest guard _ b _)
      each-body (AndLoop bounds inner rest) guard k b pc =
          both P (loop_instructions line bounds b pc (body_instructions line over beside text_of test_of stored inner guard k (b + 4) (pc + 5))) _
          (each-loop bounds b pc _ (each-body inner guard k (b + 4) (pc + 5))) (each-body rest guard _ b _)

      each-arms : (arms : NestArms A C) (guard : Option ℕ) (earlier : List ℕ) (k b pc : ℕ) → Each (arms_instructions line over beside text_of test_of stored arms guard earlier k b pc)
      each-arms NoArm guard earlier k b pc = tt
      each-arms (AndArm test body others) guard earlier k b pc = (
        each.makes (stored + k) over _ beside (omega (arith, le)),
        (
          each-test earlier guard test (stored + k),
          both P (body_instructions line over beside text_of test_of stored body (Some k) (k + 1) b (pc + 2)) _ (each-body body (Some k) (k + 1) b (pc + 2)) (each-arms others guard (k ∷ earlier) _ b _),
        ),
      )

    pub each-statement : (fs : List Final) → AllByRecursion (IsFinalFrom least) fs → (body : NestBody A C) (b pc : ℕ) → Each (nest_instructions line over beside text_of test_of stored fs body b pc)
    each-statement fs froms body b pc =
        let c = finals_makes line over beside fs ++ conditions_makes line over beside stored (count_nest body) in
        both P c _ (both P (finals_makes line over beside fs) _ (each-made fs froms) (each-condition stored (count_nest body) le))
        (both P (body_instructions line over beside text_of test_of stored body None 0 b (pc + length c)) _ (each-body body None 0 b (pc + length c)) (each.verdict, each-final fs))

-- ---- what the code of statements names

module _ (table : CodeTable) (line : ℕ) (over : List Sub) (space : IsSpace table over) where
  abbrev AllValid : List Instruction → Type 0
  AllValid code = AllByRecursion (IsValid table) code

  abbrev pub IsMarkRow : Option ℕ → Type 0
  IsMarkRow None = ⊤
  IsMarkRow (Some r) = IsCopy table r

  pub record IsGoodText (p : NestText) : Type 0 where
    pub copies : AllByRecursion (IsCopy table) p.copies
    pub left : IsNestLeft table (length over) p.left
    pub right : IsNestForm table (length over) (length over + length p.copies) p.right
    pub mark : IsMarkRow p.mark

  pub record IsGoodTest (c : NestTest) : Type 0 where
    pub copies : AllByRecursion (IsCopy table) c.copies
    pub form : IsNestForm table (length over) (length over + length c.copies) c.form

  pub record AreGoodBounds (f : FlatBounds) : Type 0 where
    pub index : f.index < table.slots
    pub first : IsFlat table 0 f.first
    pub last : IsFlat table 0 f.last
    pub step : IsFlat table 0 f.step

  abbrev pub IsGoodFinal : Final → Type 0
  IsGoodFinal (Folds j r x) = IsCopy table r × (x < table.slots)
  IsGoodFinal (Lasts r q x) = IsCopy table r × IsCopy table q × (x < table.slots)

  pub value-good : (f : Flat) → IsFlat table 0 f → IsValue table f
  value-good (Int v) ok = ok
  value-good (Slot k) ok = ok
  value-good (Axis k) ok = ok
  value-good (Read k) ok = ok
  value-good (Operated o fs) ok = ok.1

  -- what the copies lie beside
  module _ (beside : Option FlatAnchor) (anchored : IsAnchor table (length over) beside) where
    made-good : (fs : List Final) → AllByRecursion IsGoodFinal fs → AllValid (finals_makes line over beside fs)
    made-good [] h = tt
    made-good (Folds j r x ∷ fs) h = ((h.0.0, space, tt, anchored), made-good fs h.1)
    made-good (Lasts r q x ∷ fs) h = ((h.0.0, space, h.0.2, anchored), ((h.0.1, space, tt, anchored), made-good fs h.1))

  finals-good : (fs : List Final) → AllByRecursion IsGoodFinal fs → AllValid (finals_instructions line fs)
  finals-good [] h = tt
  finals-good (Folds j r x ∷ fs) h = (h.0, finals-good fs h.1)
  finals-good (Lasts r q x ∷ fs) h = (h.0, finals-good fs h.1)

  loop-good : (f : FlatBounds) (b pc : ℕ) (body : List Instruction) → AreGoodBounds f → b + 4 ≤ table.slots → pc + length (loop_instructions line f b pc body) < table.places → AllValid body
      → AllValid (loop_instructions line f b pc body)
  loop-good f b pc body good le within inside =
      let tail = tail_instructions line f b (pc + 5) (pc + 5 + length body + 5) in
      let ends : pc + (5 + (length body + 5)) < table.places = omega (arith, within, length-append body tail) in
      let index : IsValid table (Set line f.index (Slot b)) = (good.index, omega (arith, le)) in
      let trips : IsValid table (Trips line b (b + 1) (b + 2) (b + 3) (pc + 5 + length body + 5)) =
      (omega (arith, le), omega (arith, le), omega (arith, le), omega (arith, le), omega (arith, ends)) in
      let next : IsValid table (Set line b (Operated op.Add (AndFlat (Slot b) (AndFlat (Slot (b + 2)) NoFlat)))) =
      (omega (arith, le), (omega (arith, le), (omega (arith, le), tt))) in
      let test : IsValid table (JumpIfZero (pc + 5 + length body + 5) (b + 3)) = (omega (arith, ends), omega (arith, le)) in
      let count : IsValid table (Set line (b + 3) (Operated op.Sub (AndFlat (Slot (b + 3)) (AndFlat (Int (pos 1)) NoFlat)))) =
      (omega (arith, le), (omega (arith, le), (tt, tt))) in (
        (omega (arith, le), value-good f.first good.first),
        (
          (omega (arith, le), value-good f.last good.last),
          ((omega (arith, le), value-good f.step good.step), (index, (trips, both (IsValid table) body tail inside (next, (index, (test, (count, (omega (arith, ends), tt)))))))),
        ),
      )

  module _ {A C : Type 0} (text_of : A → NestText) (test_of : C → NestTest) where
    abbrev IsGoodCondition : Option C → Type 0
    IsGoodCondition None = ⊤
    IsGoodCondition (Some c) = IsGoodTest (test_of c)

    abbrev mutual
      pub AreGood : NestBody A C → Type 0
      AreGood NoText = ⊤
      AreGood (AndText a rest) = IsGoodText (text_of a) × AreGood rest
      AreGood (AndIf arms rest) = ArmsAreGood arms × AreGood rest
      AreGood (AndLoop bounds inner rest) = AreGoodBounds bounds × AreGood inner × AreGood rest

      pub ArmsAreGood : NestArms A C → Type 0
      ArmsAreGood NoArm = ⊤
      ArmsAreGood (AndArm test body others) = IsGoodCondition test × AreGood body × ArmsAreGood others

    -- so many stored conditions have rows, and the copies lie beside this
    module _ (stored count : ℕ) (rows : (k : ℕ) → k < count → IsCopy table (stored + k)) (beside : Option FlatAnchor) (anchored : IsAnchor table (length over) beside) where
      abbrev IsCounted : Asked → Type 0
      IsCounted w = w.number < count

      abbrev IsGuard : Option ℕ → Type 0
      IsGuard None = ⊤
      IsGuard (Some g) = g < count

      guard-counted : (guard : Option ℕ) → IsGuard guard → AllByRecursion IsCounted (guard_asked guard)
      guard-counted None h = tt
      guard-counted (Some g) h = (h, tt)

      none-counted : (earlier : List ℕ) → AllByRecursion (λ k. k < count) earlier → AllByRecursion IsCounted (none_asked earlier)
      none-counted [] h = tt
      none-counted (k ∷ ks) h = (h.0, none-counted ks h.1)

      whens-good : (ws : List Asked) → AllByRecursion IsCounted ws → AllByRecursion (λ (w : When). IsCopy table w.copy) (whens_of stored ws)
      whens-good [] h = tt
      whens-good (w ∷ ws) h = (rows w.number h.0, whens-good ws h.1)

      mark-good : (guard o : Option ℕ) → IsGuard guard → IsMarkRow o → AllValid (mark_instructions line over beside text_of test_of stored guard o)
      mark-good guard None h row = tt
      mark-good guard (Some r) h row =
          (record { over = space; whens = whens-good (guard_asked guard) (guard-counted guard h); copies = tt; left = row; right = tt; beside = anchored }, tt)

      test-good : (guard : Option ℕ) (earlier : List ℕ) (c : Option C) (k : ℕ) → IsGuard guard → AllByRecursion (λ k. k < count) earlier → IsGoodCondition c → k < count
          → IsValid table (test_instruction line over beside text_of test_of stored (tested_asked guard earlier) c (stored + k))
      test-good guard earlier None k h below good lt = record {
        over = space;
        whens = whens-good (tested_asked guard earlier) (both IsCounted (guard_asked guard) (none_asked earlier) (guard-counted guard h) (none-counted earlier below));
        copies = tt;
        left = rows k lt;
        right = tt;
        beside = anchored;
      }
      test-good guard earlier (Some c) k h below good lt = record {
        over = space;
        whens = whens-good (tested_asked guard earlier) (both IsCounted (guard_asked guard) (none_asked earlier) (guard-counted guard h) (none-counted earlier below));
        copies = good.copies;
        left = rows k lt;
        right = good.form;
        beside = anchored;
      }

      mutual
        body-good : (body : NestBody A C) (guard : Option ℕ) (k b pc : ℕ) → AreGood body → IsGuard guard → k + count_nest body ≤ count → b + slots_of_nest body ≤ table.slots
            → pc + length (body_instructions line over beside text_of test_of stored body guard k b pc) < table.places
            → AllValid (body_instructions line over beside text_of test_of stored body guard k b pc)
        body-good NoText guard k b pc good h few le within = tt
        body-good (AndText a rest) guard k b pc good h few le within =
            let marks = mark_instructions line over beside text_of test_of stored guard (text_of a).mark in
            let others = body_instructions line over beside text_of test_of stored rest guard k b (pc + length (text_instructions line over beside text_of test_of stored guard a)) in (
              record { over = space; whens = whens-good (guard_asked guard) (guard-counted guard h); copies = good.0.copies; left = good.0.left; right = good.0.right; beside = anchored },
              both (IsValid table) marks others (mark-good guard (text_of a).mark h good.0.mark) (body-good rest guard k b _ good.1 h few le (omega (arith, within, length-append marks others))),
            )
        body-good (AndIf arms rest) guard k b pc good h few le within =
            let first = arms_instructions line over beside text_of test_of stored arms guard [] k b pc in
            let others = body_instructions line over beside text_of test_of stored rest guard (k + count_nest_arms arms) b (pc + length first) in
            both (IsValid table) first others (arms-good arms guard [] k b pc good.0 h tt (omega (arith, few)) (omega (arith, le)) (omega (arith, within, length-append first others)))
            (body-good rest guard _ b _ good.1 h (omega (arith, few)) (omega (arith, le)) (omega (arith, within, length-append first others)))
        body-good (AndLoop bounds inner rest) guard k b pc good h few le within =
            let own = body_instructions line over beside text_of test_of stored inner guard k (b + 4) (pc + 5) in
            let first = loop_instructions line bounds b pc own in
            let others = body_instructions line over beside text_of test_of stored rest guard (k + count_nest inner) b (pc + length first) in
            let tail = tail_instructions line bounds b (pc + 5) (pc + 5 + length own + 5) in
            let here : pc + length first < table.places = omega (arith, within, length-append first others) in
            both (IsValid table) first others
            (loop-good bounds b pc own good.0 (omega (arith, le)) here
            (body-good inner guard k (b + 4) (pc + 5) good.1 h (omega (arith, few)) (omega (arith, le)) (omega (arith, here, length-append own tail))))
            (body-good rest guard _ b _ good.2 h (omega (arith, few)) (omega (arith, le)) (omega (arith, within, length-append first others)))

        arms-good : (arms : NestArms A C) (guard : Option ℕ) (earlier : List ℕ) (k b pc : ℕ) → ArmsAreGood arms → IsGuard guard → AllByRecursion (λ k. k < count) earlier
            → k + count_nest_arms arms ≤ count → b + slots_of_arms arms ≤ table.slots
            → pc + length (arms_instructions line over beside text_of test_of stored arms guard earlier k b pc) < table.places
            → AllValid (arms_instructions line over beside text_of test_of stored arms guard earlier k b pc)
        arms-good NoArm guard earlier k b pc good h below few le within = tt
        arms-good (AndArm test body others) guard earlier k b pc good h below few le within =
            let own = body_instructions line over beside text_of test_of stored body (Some k) (k + 1) b (pc + 2) in
            let rest = arms_instructions line over beside text_of test_of stored others guard (k ∷ earlier) (k + 1 + count_nest body) b (pc + 2 + length own) in
            let lt : k < count = omega (arith, few) in (
              (rows k lt, space, tt, anchored),
              (
                test-good guard earlier test k h below good.0 lt,
                both (IsValid table) own rest (body-good body (Some k) (k + 1) b (pc + 2) good.1 lt (omega (arith, few)) (omega (arith, le)) (omega (arith, within, length-append own rest)))
                    (arms-good others guard (k ∷ earlier) _ b _ good.2 h (lt, below) (omega (arith, few)) (omega (arith, le)) (omega (arith, within, length-append own rest))),
              ),
            )

      conditions-good : (c : ℕ) → c ≤ count → AllValid (conditions_makes line over beside stored c)
      conditions-good zero le = tt
      conditions-good (suc c) le = both (IsValid table) (conditions_makes line over beside stored c) _ (conditions-good c (omega (arith, le))) ((rows c (omega (arith, le)), space, tt, anchored), tt)

      pub statements-good : (fs : List Final) (body : NestBody A C) (b pc : ℕ) → AllByRecursion IsGoodFinal fs → AreGood body → count_nest body ≤ count → b + slots_of_nest body ≤ table.slots
          → pc + length (nest_instructions line over beside text_of test_of stored fs body b pc) < table.places
          → AllValid (nest_instructions line over beside text_of test_of stored fs body b pc)
      statements-good fs body b pc finals good few le within =
          let c = finals_makes line over beside fs ++ conditions_makes line over beside stored (count_nest body) in
          let own = body_instructions line over beside text_of test_of stored body None 0 b (pc + length c) in
          let rest = Verdict ∷ finals_instructions line fs in
          both (IsValid table) c (own ++ rest) (both (IsValid table) (finals_makes line over beside fs) _ (made-good beside anchored fs finals) (conditions-good (count_nest body) few))
          (both (IsValid table) own rest
          (body-good body None 0 b (pc + length c) good tt (omega (arith, few)) le (omega (arith, within, length-append c (own ++ rest), length-append own rest)))
          (tt, finals-good fs finals))
