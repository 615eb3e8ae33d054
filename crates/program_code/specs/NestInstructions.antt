-- Of the claim.
-- The code of the statements of a nest of INDEPENDENT loops (HPF 2.0, 5.1), as instructions of node code.
use Rattle.std.specs.Prelude.{ℕ, zero, suc, ◌+◌, max, List, [], ◌∷◌, ◌++◌, length, pos, Option, Some, None}
use Rattle.op_tables.specs.declared.op.Op.TheVariants as op
use Rattle.op_tables.specs.Joins.{unit}
use Rattle.node_code.specs.declared.nest.NestRole.{NestRole}
use Rattle.node_code.specs.declared.nest.NestRole.TheVariants.{Assigns, Tests, SetsElse, SetsMark}
use Rattle.node_code.specs.Flat.{Flat, Int, Slot, Operated, NoFlat, AndFlat}
use Rattle.node_code.specs.Anchors.{FlatAnchor}
use Rattle.node_code.specs.Forms.{Sub, FlatForm}
use Rattle.node_code.specs.Parallel.{When}
use Rattle.node_code.specs.NestStatements.{NestStatement, CopyLeft}
use Rattle.node_code.specs.Instructions.{Instruction, Set, Trips, Jump, JumpIfZero, Verdict, FoldCopy, LastCopy, ParNest, MakeCopies}
use Rattle.statement_trail.specs.Asked.{Asked, guard_asked, tested_asked}
use Rattle.statement_trail.specs.Finals.{Final, Folds, Lasts}
use Rattle.program_code.specs.NestTexts.{NestText, NestTest}

-- ---- bodies with bounds of inner loops as expressions over the slots

-- the slot of the index, the first value, the last value and the step
pub record FlatBounds : Type 0 where
  pub index : ℕ
  pub first : Flat
  pub last : Flat
  pub step : Flat

module _ (A C : Type 0) where
  mutual
    pub data NestBody : Type 0 where
      NoText : NestBody
      AndText : A → NestBody → NestBody
      AndIf : NestArms → NestBody → NestBody
      AndLoop : FlatBounds → NestBody → NestBody → NestBody

    pub data NestArms : Type 0 where
      NoArm : NestArms
      AndArm : Option C → NestBody → NestArms → NestArms

module _ {A C : Type 0} where
  abbrev mutual
    -- how many stored conditions it has: one for each arm
    pub count_nest : NestBody A C → ℕ
    count_nest NoText = 0
    count_nest (AndText a rest) = count_nest rest
    count_nest (AndIf arms rest) = count_nest_arms arms + count_nest rest
    count_nest (AndLoop bounds inner rest) = count_nest inner + count_nest rest

    pub count_nest_arms : NestArms A C → ℕ
    count_nest_arms NoArm = 0
    count_nest_arms (AndArm test body others) = 1 + count_nest body + count_nest_arms others

  abbrev mutual
    -- how many slots its inner loops take
    pub slots_of_nest : NestBody A C → ℕ
    slots_of_nest NoText = 0
    slots_of_nest (AndText a rest) = slots_of_nest rest
    slots_of_nest (AndIf arms rest) = max (slots_of_arms arms) (slots_of_nest rest)
    slots_of_nest (AndLoop bounds inner rest) = max (4 + slots_of_nest inner) (slots_of_nest rest)

    pub slots_of_arms : NestArms A C → ℕ
    slots_of_arms NoArm = 0
    slots_of_arms (AndArm test body others) = max (slots_of_nest body) (slots_of_arms others)

-- ---- parallel statements

-- stored conditions as they are asked for, each in its row, of the rows from `stored` on
abbrev pub whens_of : (stored : ℕ) → List Asked → List When
whens_of stored [] = []
whens_of stored (w ∷ ws) = record { copy = stored + w.number; value = w.value } ∷ whens_of stored ws

-- over the indices of the nest, whose copies lie beside this, under stored conditions
module _ (over : List Sub) (beside : Option FlatAnchor) (whens : List When) where
  abbrev pub assigning : NestText → NestStatement
  assigning p = record {
    line = p.line;
    over = over;
    whens = whens;
    copies = p.copies;
    names = p.names;
    left = p.left;
    right = p.right;
    role = Assigns;
    beside = beside;
  }

  abbrev pub testing : NestTest → (copy : ℕ) → NestStatement
  testing p copy = record {
    line = p.line;
    over = over;
    whens = whens;
    copies = p.copies;
    names = p.names;
    left = CopyLeft copy;
    right = p.form;
    role = Tests;
    beside = beside;
  }

  -- a copy becomes 1; this can't fault, so that it has no line
  abbrev pub setting : NestRole → (copy : ℕ) → NestStatement
  setting role copy = record {
    line = 0;
    over = over;
    whens = whens;
    copies = [];
    names = [];
    left = CopyLeft copy;
    right = FlatForm (Int (pos 1));
    role = role;
    beside = beside;
  }

  abbrev pub setting_else : (copy : ℕ) → NestStatement
  setting_else = setting SetsElse

  abbrev pub setting_mark : (copy : ℕ) → NestStatement
  setting_mark = setting SetsMark

-- ---- the code

module _ (line : ℕ) where
  -- the instructions after the body of an inner loop
  abbrev pub tail_instructions : FlatBounds → (b inside after : ℕ) → List Instruction
  tail_instructions bounds b inside after =
      Set line b (Operated op.Add (AndFlat (Slot b) (AndFlat (Slot (b + 2)) NoFlat)))
      ∷ Set line bounds.index (Slot b)
      ∷ JumpIfZero after (b + 3)
      ∷ Set line (b + 3) (Operated op.Sub (AndFlat (Slot (b + 3)) (AndFlat (Int (pos 1)) NoFlat)))
      ∷ Jump inside
      ∷ []

  -- an inner loop at a place, given the instructions of its body
  abbrev pub loop_instructions : FlatBounds → (b pc : ℕ) → List Instruction → List Instruction
  loop_instructions bounds b pc body =
      Set line b bounds.first ∷ Set line (b + 1) bounds.last ∷ Set line (b + 2) bounds.step ∷ Set line bounds.index (Slot b)
      ∷ Trips line b (b + 1) (b + 2) (b + 3) (pc + 5 + length body + 5)
      ∷ (body ++ tail_instructions bounds b (pc + 5) (pc + 5 + length body + 5))

  -- a REDUCTION variable's copies are folded, and another scalar gets the copy of the last iteration that assigned it
  abbrev pub final_instruction : Final → Instruction
  final_instruction (Folds j r x) = FoldCopy r j x
  final_instruction (Lasts r q x) = LastCopy r q x

  abbrev pub finals_instructions : List Final → List Instruction
  finals_instructions [] = []
  finals_instructions (f ∷ fs) = final_instruction f ∷ finals_instructions fs

  module _ (over : List Sub) (beside : Option FlatAnchor) where
    -- the copies at the entry: a REDUCTION variable's begin with the unit, any other scalar's with its value, and no mark is set
    abbrev pub final_makes : Final → List Instruction
    final_makes (Folds j r x) = MakeCopies r over (Int (unit j)) beside ∷ []
    final_makes (Lasts r q x) = MakeCopies r over (Slot x) beside ∷ MakeCopies q over (Int (pos 0)) beside ∷ []

    abbrev pub finals_makes : List Final → List Instruction
    finals_makes [] = []
    finals_makes (f ∷ fs) = final_makes f ++ finals_makes fs

    -- and no condition holds
    abbrev pub conditions_makes : (stored count : ℕ) → List Instruction
    conditions_makes stored zero = []
    conditions_makes stored (suc count) = conditions_makes stored count ++ MakeCopies (stored + count) over (Int (pos 0)) beside ∷ []

    module _ {A C : Type 0} (text_of : A → NestText) (test_of : C → NestTest) (stored : ℕ) where
      abbrev pub mark_instructions : Option ℕ → Option ℕ → List Instruction
      mark_instructions guard None = []
      mark_instructions guard (Some r) = ParNest (setting_mark over beside (whens_of stored (guard_asked guard)) r) ∷ []

      -- an assignment, and then its mark under the same guard
      abbrev pub text_instructions : Option ℕ → A → List Instruction
      text_instructions guard a = ParNest (assigning over beside (whens_of stored (guard_asked guard)) (text_of a)) ∷ mark_instructions guard (text_of a).mark

      -- an arm's condition; ELSE's holds where no earlier one does
      abbrev pub test_instruction : List Asked → Option C → (copy : ℕ) → Instruction
      test_instruction asked None copy = ParNest (setting_else over beside (whens_of stored asked) copy)
      test_instruction asked (Some c) copy = ParNest (testing over beside (whens_of stored asked) (test_of c) copy)

      abbrev mutual
        -- a body under a guard, with conditions numbered from k on and slots from b on, at a place
        pub body_instructions : NestBody A C → Option ℕ → (k b pc : ℕ) → List Instruction
        body_instructions NoText guard k b pc = []
        body_instructions (AndText a rest) guard k b pc =
            text_instructions guard a ++ body_instructions rest guard k b (pc + length (text_instructions guard a))
        body_instructions (AndIf arms rest) guard k b pc =
            let c = arms_instructions arms guard [] k b pc in
            c ++ body_instructions rest guard (k + count_nest_arms arms) b (pc + length c)
        body_instructions (AndLoop bounds inner rest) guard k b pc =
            let c = loop_instructions bounds b pc (body_instructions inner guard k (b + 4) (pc + 5)) in
            c ++ body_instructions rest guard (k + count_nest inner) b (pc + length c)

        pub arms_instructions : NestArms A C → Option ℕ → List ℕ → (k b pc : ℕ) → List Instruction
        arms_instructions NoArm guard earlier k b pc = []
        arms_instructions (AndArm test body others) guard earlier k b pc =
            let c = body_instructions body (Some k) (k + 1) b (pc + 2) in
            MakeCopies (stored + k) over (Int (pos 0)) beside ∷ test_instruction (tested_asked guard earlier) test (stored + k)
            ∷ (c ++ arms_instructions others guard (k ∷ earlier) (k + 1 + count_nest body) b (pc + 2 + length c))

      -- the whole nest at a place, after its bounds and its check
      abbrev pub nest_instructions : List Final → NestBody A C → (b pc : ℕ) → List Instruction
      nest_instructions finals body b pc =
          let c = finals_makes finals ++ conditions_makes stored (count_nest body) in
          c ++ (body_instructions body None 0 b (pc + length c) ++ Verdict ∷ finals_instructions finals)
