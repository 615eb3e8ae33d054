-- The code that is made of a nest's block is that of which the laws of nests speak.
use Rattle.std.proofs.Common.{◌≡◌, ℕ, ◌+◌, max, pos, List, [], ◌∷◌, ◌++◌, length, Option, Some, None, refl, sym, ap, ◌∙◌}
use Rattle.node_code.specs.Flat.{Int}
use Rattle.node_code.specs.Forms.{Sub}
use Rattle.node_code.specs.Anchors.{FlatAnchor}
use Rattle.node_code.specs.Instructions.{Instruction}
use Rattle.nest_syntax.specs.Asked.{guard_asked, tested_asked}
use Rattle.nest_syntax.specs.Finals.{Final}
use Rattle.program_code.specs.NestTexts.{NestText, NestTest}
use Rattle.program_code.specs.NestInstructions.{NestBody, NoText, AndText, AndIf, AndLoop, NestArms, NoArm as NoArmText, AndArm, count_nest, count_nest_arms, slots_of_nest, slots_of_arms, whens_of, assigning, testing, text_instructions, mark_instructions, test_instruction, loop_instructions, body_instructions, arms_instructions, nest_instructions, finals_makes, conditions_makes, finals_instructions}
use Rattle.node_code.specs.Instructions as code

-- bodies of one shape, whose texts are the same
module _ {A B C D : Type 0} (text_of : A → NestText) (text_in : B → NestText) (test_of : C → NestTest) (test_in : D → NestTest) where
  abbrev pub IsSameTest : Option C → Option D → Type 0
  IsSameTest None None = Unit {0}
  IsSameTest (Some c) (Some d) = test_of c ≡ test_in d
  IsSameTest a b = ⊥

  abbrev mutual
    pub AreSame : NestBody A C → NestBody B D → Type 0
    AreSame NoText NoText = Unit {0}
    AreSame (AndText a r) (AndText b q) = (text_of a ≡ text_in b) × AreSame r q
    AreSame (AndIf xs r) (AndIf ys q) = AreSameArms xs ys × AreSame r q
    AreSame (AndLoop x i r) (AndLoop y j q) = (x ≡ y) × AreSame i j × AreSame r q
    AreSame r q = ⊥

    pub AreSameArms : NestArms A C → NestArms B D → Type 0
    AreSameArms NoArmText NoArmText = Unit {0}
    AreSameArms (AndArm c x xs) (AndArm d y ys) = IsSameTest c d × AreSame x y × AreSameArms xs ys
    AreSameArms xs ys = ⊥

  -- as many stored conditions and as many slots
  mutual
    pub same-count : (a : NestBody A C) (b : NestBody B D) → AreSame a b → count_nest a ≡ count_nest b
    same-count NoText NoText h = refl
    same-count NoText (AndText b q) h = absurd h
    same-count NoText (AndIf ys q) h = absurd h
    same-count NoText (AndLoop y j q) h = absurd h
    same-count (AndText a r) NoText h = absurd h
    same-count (AndText a r) (AndText b q) h = same-count r q h.1
    same-count (AndText a r) (AndIf ys q) h = absurd h
    same-count (AndText a r) (AndLoop y j q) h = absurd h
    same-count (AndIf xs r) NoText h = absurd h
    same-count (AndIf xs r) (AndText b q) h = absurd h
    same-count (AndIf xs r) (AndIf ys q) h = λ i. same-count-arms xs ys h.0 i + same-count r q h.1 i
    same-count (AndIf xs r) (AndLoop y j q) h = absurd h
    same-count (AndLoop x i r) NoText h = absurd h
    same-count (AndLoop x i r) (AndText b q) h = absurd h
    same-count (AndLoop x i r) (AndIf ys q) h = absurd h
    same-count (AndLoop x i r) (AndLoop y j q) h = λ k. same-count i j h.1 k + same-count r q h.2 k

    pub same-count-arms : (xs : NestArms A C) (ys : NestArms B D) → AreSameArms xs ys → count_nest_arms xs ≡ count_nest_arms ys
    same-count-arms NoArmText NoArmText h = refl
    same-count-arms NoArmText (AndArm d y ys) h = absurd h
    same-count-arms (AndArm c x xs) NoArmText h = absurd h
    same-count-arms (AndArm c x xs) (AndArm d y ys) h = λ i. 1 + same-count x y h.1 i + same-count-arms xs ys h.2 i

  mutual
    pub same-slots : (a : NestBody A C) (b : NestBody B D) → AreSame a b → slots_of_nest a ≡ slots_of_nest b
    same-slots NoText NoText h = refl
    same-slots NoText (AndText b q) h = absurd h
    same-slots NoText (AndIf ys q) h = absurd h
    same-slots NoText (AndLoop y j q) h = absurd h
    same-slots (AndText a r) NoText h = absurd h
    same-slots (AndText a r) (AndText b q) h = same-slots r q h.1
    same-slots (AndText a r) (AndIf ys q) h = absurd h
    same-slots (AndText a r) (AndLoop y j q) h = absurd h
    same-slots (AndIf xs r) NoText h = absurd h
    same-slots (AndIf xs r) (AndText b q) h = absurd h
    same-slots (AndIf xs r) (AndIf ys q) h = λ i. max (same-slots-arms xs ys h.0 i) (same-slots r q h.1 i)
    same-slots (AndIf xs r) (AndLoop y j q) h = absurd h
    same-slots (AndLoop x i r) NoText h = absurd h
    same-slots (AndLoop x i r) (AndText b q) h = absurd h
    same-slots (AndLoop x i r) (AndIf ys q) h = absurd h
    same-slots (AndLoop x i r) (AndLoop y j q) h = λ k. max (4 + same-slots i j h.1 k) (same-slots r q h.2 k)

    pub same-slots-arms : (xs : NestArms A C) (ys : NestArms B D) → AreSameArms xs ys → slots_of_arms xs ≡ slots_of_arms ys
    same-slots-arms NoArmText NoArmText h = refl
    same-slots-arms NoArmText (AndArm d y ys) h = absurd h
    same-slots-arms (AndArm c x xs) NoArmText h = absurd h
    same-slots-arms (AndArm c x xs) (AndArm d y ys) h = λ i. max (same-slots x y h.1 i) (same-slots-arms xs ys h.2 i)

  -- and the same code
  module _ (line : ℕ) (over : List Sub) (beside : Option FlatAnchor) (stored : ℕ) where
    abbrev Is : NestBody A C → Option ℕ → (k b pc : ℕ) → List Instruction
    Is = body_instructions line over beside text_of test_of stored

    abbrev Mine : NestBody B D → Option ℕ → (k b pc : ℕ) → List Instruction
    Mine = body_instructions line over beside text_in test_in stored

    abbrev ArmsIs : NestArms A C → Option ℕ → List ℕ → (k b pc : ℕ) → List Instruction
    ArmsIs = arms_instructions line over beside text_of test_of stored

    abbrev ArmsMine : NestArms B D → Option ℕ → List ℕ → (k b pc : ℕ) → List Instruction
    ArmsMine = arms_instructions line over beside text_in test_in stored

    -- an assignment with its mark
    abbrev texted : Option ℕ → NestText → List Instruction
    texted guard p = code.ParNest (assigning over beside (whens_of stored (guard_asked guard)) p) ∷ mark_instructions line over beside text_of test_of stored guard p.mark

    same-marks : (guard o : Option ℕ) → mark_instructions line over beside text_in test_in stored guard o ≡ mark_instructions line over beside text_of test_of stored guard o
    same-marks guard None = refl
    same-marks guard (Some r) = refl

    same-text : (guard : Option ℕ) (a : A) (b : B) → text_of a ≡ text_in b → text_instructions line over beside text_of test_of stored guard a ≡ text_instructions line over beside text_in test_in stored guard b
    same-text guard a b h = ap (texted guard) h ∙ ap (λ is. code.ParNest (assigning over beside (whens_of stored (guard_asked guard)) (text_in b)) ∷ is) (sym (same-marks guard (text_in b).mark))

    same-test : (guard : Option ℕ) (earlier : List ℕ) (c : Option C) (d : Option D) (copy : ℕ) → IsSameTest c d
        → test_instruction line over beside text_of test_of stored (tested_asked guard earlier) c copy ≡ test_instruction line over beside text_in test_in stored (tested_asked guard earlier) d copy
    same-test guard earlier None None copy h = refl
    same-test guard earlier None (Some d) copy h = absurd h
    same-test guard earlier (Some c) None copy h = absurd h
    same-test guard earlier (Some c) (Some d) copy h = ap (λ p. code.ParNest (testing over beside (whens_of stored (tested_asked guard earlier)) p copy)) h

    mutual
      pub same-code : (a : NestBody A C) (b : NestBody B D) → AreSame a b → (guard : Option ℕ) (k x pc : ℕ) → Is a guard k x pc ≡ Mine b guard k x pc
      same-code NoText NoText h guard k x pc = refl
      same-code NoText (AndText b q) h guard k x pc = absurd h
      same-code NoText (AndIf ys q) h guard k x pc = absurd h
      same-code NoText (AndLoop y j q) h guard k x pc = absurd h
      same-code (AndText a r) NoText h guard k x pc = absurd h
      same-code (AndText a r) (AndText b q) h guard k x pc =
          let c = same-text guard a b h.0 in
          (λ i. c i ++ Is r guard k x (pc + length (c i)))
          ∙ ap (λ is. text_instructions line over beside text_in test_in stored guard b ++ is)
          (same-code r q h.1 guard k x (pc + length (text_instructions line over beside text_in test_in stored guard b)))
      same-code (AndText a r) (AndIf ys q) h guard k x pc = absurd h
      same-code (AndText a r) (AndLoop y j q) h guard k x pc = absurd h
      same-code (AndIf xs r) NoText h guard k x pc = absurd h
      same-code (AndIf xs r) (AndText b q) h guard k x pc = absurd h
      same-code (AndIf xs r) (AndIf ys q) h guard k x pc =
          let c = same-arms xs ys h.0 guard [] k x pc in
          let n = same-count-arms xs ys h.0 in
          (λ i. c i ++ Is r guard (k + n i) x (pc + length (c i)))
          ∙ ap (λ is. ArmsMine ys guard [] k x pc ++ is) (same-code r q h.1 guard (k + count_nest_arms ys) x (pc + length (ArmsMine ys guard [] k x pc)))
      same-code (AndIf xs r) (AndLoop y j q) h guard k x pc = absurd h
      same-code (AndLoop l i r) NoText h guard k x pc = absurd h
      same-code (AndLoop l i r) (AndText b q) h guard k x pc = absurd h
      same-code (AndLoop l i r) (AndIf ys q) h guard k x pc = absurd h
      same-code (AndLoop l i r) (AndLoop m j q) h guard k x pc =
          let e = same-code i j h.1 guard k (x + 4) (pc + 5) in
          let c : loop_instructions line l x pc (Is i guard k (x + 4) (pc + 5)) ≡ loop_instructions line m x pc (Mine j guard k (x + 4) (pc + 5)) =
          λ u. loop_instructions line (h.0 u) x pc (e u) in
          let n = same-count i j h.1 in
          (λ u. c u ++ Is r guard (k + n u) x (pc + length (c u)))
          ∙ ap (λ is. loop_instructions line m x pc (Mine j guard k (x + 4) (pc + 5)) ++ is)
          (same-code r q h.2 guard (k + count_nest j) x (pc + length (loop_instructions line m x pc (Mine j guard k (x + 4) (pc + 5)))))

      same-arms : (xs : NestArms A C) (ys : NestArms B D) → AreSameArms xs ys → (guard : Option ℕ) (earlier : List ℕ) (k x pc : ℕ)
          → ArmsIs xs guard earlier k x pc ≡ ArmsMine ys guard earlier k x pc
      same-arms NoArmText NoArmText h guard earlier k x pc = refl
      same-arms NoArmText (AndArm d y ys) h guard earlier k x pc = absurd h
      same-arms (AndArm c a xs) NoArmText h guard earlier k x pc = absurd h
      same-arms (AndArm c a xs) (AndArm d b ys) h guard earlier k x pc =
          let e = same-code a b h.1 (Some k) (k + 1) x (pc + 2) in
          let n = same-count a b h.1 in
          let rest : Is a (Some k) (k + 1) x (pc + 2) ++ ArmsIs xs guard (k ∷ earlier) (k + 1 + count_nest a) x (pc + 2 + length (Is a (Some k) (k + 1) x (pc + 2)))
          ≡ Mine b (Some k) (k + 1) x (pc + 2) ++ ArmsMine ys guard (k ∷ earlier) (k + 1 + count_nest b) x (pc + 2 + length (Mine b (Some k) (k + 1) x (pc + 2))) =
          (λ u. e u ++ ArmsIs xs guard (k ∷ earlier) (k + 1 + n u) x (pc + 2 + length (e u)))
          ∙ ap (λ is. Mine b (Some k) (k + 1) x (pc + 2) ++ is)
          (same-arms xs ys h.2 guard (k ∷ earlier) (k + 1 + count_nest b) x (pc + 2 + length (Mine b (Some k) (k + 1) x (pc + 2)))) in
          λ u. code.MakeCopies (stored + k) over (Int (pos 0)) beside ∷ same-test guard earlier c d (stored + k) h.0 u ∷ rest u

    pub same-nest : (fs : List Final) (a : NestBody A C) (b : NestBody B D) → AreSame a b → (x pc : ℕ)
        → nest_instructions line over beside text_of test_of stored fs a x pc ≡ nest_instructions line over beside text_in test_in stored fs b x pc
    same-nest fs a b h x pc =
        let n = same-count a b h in
        let c = finals_makes line over beside fs ++ conditions_makes line over beside stored (count_nest b) in
        (λ u. let c = finals_makes line over beside fs ++ conditions_makes line over beside stored (n u) in c ++ (Is a None 0 x (pc + length c) ++ code.Verdict ∷ finals_instructions line fs))
        ∙ (λ u. c ++ (same-code a b h None 0 x (pc + length c) u ++ code.Verdict ∷ finals_instructions line fs))
