-- Of a promise.
-- The body of a nest: texts of assignments and of conditions, with inner loops that make the same trips at all iterations.
use Rattle.std.specs.Prelude.{◌≡◌, ℕ, ◌+◌, max, List, ℤ, Bool, true, Option}
use Rattle.nest_machine.specs.Counting.{Counting}

-- the slot of the index, the first value, the last value and the step of an inner loop, by the slots. They can't fault
pub record Bounds : Type 0 where
  pub index : ℕ
  pub first : List ℤ → ℤ
  pub last : List ℤ → ℤ
  pub step : List ℤ → ℤ

-- A are the texts of assignments, and C those of conditions
module _ (A C : Type 0) where
  mutual
    pub data Body : Type 0 where
      NoText : Body
      AndText : A → Body → Body
      AndIf : Arms → Body → Body
      AndLoop : Bounds → Body → Body → Body

    -- the arms of an IF; ELSE has no condition
    pub data Arms : Type 0 where
      NoArm : Arms
      AndArm : Option C → Body → Arms → Arms

module _ {A C : Type 0} where
  abbrev mutual
    -- how many stored conditions a body has: one for each arm
    pub count_body : Body A C → ℕ
    count_body NoText = 0
    count_body (AndText a rest) = count_body rest
    count_body (AndIf arms rest) = count_arms arms + count_body rest
    count_body (AndLoop bounds inner rest) = count_body inner + count_body rest

    pub count_arms : Arms A C → ℕ
    count_arms NoArm = 0
    count_arms (AndArm test body others) = 1 + count_body body + count_arms others

  abbrev mutual
    -- how many slots its inner loops take: four for each that is open at a time
    pub body_slots : Body A C → ℕ
    body_slots NoText = 0
    body_slots (AndText a rest) = body_slots rest
    body_slots (AndIf arms rest) = max (arms_slots arms) (body_slots rest)
    body_slots (AndLoop bounds inner rest) = max (4 + body_slots inner) (body_slots rest)

    pub arms_slots : Arms A C → ℕ
    arms_slots NoArm = 0
    arms_slots (AndArm test body others) = max (body_slots body) (arms_slots others)

-- the steps of inner loops are ones that loops take, and their indices are among the indices of inner loops
module _ {A C F : Type 0} (counting : Counting F) (is_index : ℕ → Bool) where
  abbrev mutual
    pub TakeSteps : Body A C → Type 0
    TakeSteps NoText = Unit {0}
    TakeSteps (AndText a rest) = TakeSteps rest
    TakeSteps (AndIf arms rest) = ArmsTakeSteps arms × TakeSteps rest
    TakeSteps (AndLoop bounds inner rest) =
        (((s : List ℤ) → counting.is_step (bounds.step s) ≡ true) × (is_index bounds.index ≡ true)) × TakeSteps inner × TakeSteps rest

    pub ArmsTakeSteps : Arms A C → Type 0
    ArmsTakeSteps NoArm = Unit {0}
    ArmsTakeSteps (AndArm test body others) = TakeSteps body × ArmsTakeSteps others
