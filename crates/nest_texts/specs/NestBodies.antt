-- Of a promise.
-- The bodies of nests as the machine's, and how their copies lie.
use Rattle.std.specs.Prelude.{◌≡◌, List, [], ℤ, Option, Ok}
use Rattle.machine_steps.specs.Layout.{Layout}
use Rattle.node_code.specs.Flat.{Flat}
use Rattle.code_meaning.specs.Flat.{flat_value, slots_value}
use Rattle.node_code.specs.Forms.{Sub}
use Rattle.node_code.specs.Anchors.{FlatAnchor}
use Rattle.code_meaning.specs.Anchors.{anchor_in}
use Rattle.code_meaning.specs.NestStatements.{copies_extents}
use Rattle.code_meaning.specs.Instructions.{ArrayTable}
use Rattle.program_code.specs.NestInstructions.{FlatBounds, NestBody, NoText, AndText, AndIf, AndLoop, NestArms, NoArm, AndArm}
use Rattle.nest_machine.specs.Body as nest
use Rattle.nest_machine.specs.Body.{Bounds, Body, Arms}

-- how copies of a nest lie: with a value for each iteration, beside what is assigned there
abbrev pub nest_layout : ArrayTable → List Sub → Option FlatAnchor → List Layout → List ℤ → Layout
nest_layout table over beside layouts slots = table.copies layouts (anchor_in slots over beside) (copies_extents over slots)

-- an expression over the slots that can't fault
abbrev pub CantFault : Flat → Type 0
CantFault f = (s : List ℤ) → flat_value s [] [] f ≡ Ok (slots_value s f)

-- they can't fault, by a premise of the laws
abbrev pub bounds_of : FlatBounds → Bounds
bounds_of f = record { index = f.index; first = λ s. slots_value s f.first; last = λ s. slots_value s f.last; step = λ s. slots_value s f.step }

module _ {A C : Type 0} where
  abbrev mutual
    -- the body that it is for the machine
    pub body_of : NestBody A C → Body A C
    body_of NoText = nest.NoText
    body_of (AndText a rest) = nest.AndText a (body_of rest)
    body_of (AndIf arms rest) = nest.AndIf (arms_of arms) (body_of rest)
    body_of (AndLoop bounds inner rest) = nest.AndLoop (bounds_of bounds) (body_of inner) (body_of rest)

    pub arms_of : NestArms A C → Arms A C
    arms_of NoArm = nest.NoArm
    arms_of (AndArm test body others) = nest.AndArm test (body_of body) (arms_of others)

  abbrev mutual
    -- the bounds and steps of its inner loops can't fault
    pub AreSafe : NestBody A C → Type 0
    AreSafe NoText = Unit {0}
    AreSafe (AndText a rest) = AreSafe rest
    AreSafe (AndIf arms rest) = ArmsAreSafe arms × AreSafe rest
    AreSafe (AndLoop bounds inner rest) = (CantFault bounds.first × CantFault bounds.last × CantFault bounds.step) × AreSafe inner × AreSafe rest

    pub ArmsAreSafe : NestArms A C → Type 0
    ArmsAreSafe NoArm = Unit {0}
    ArmsAreSafe (AndArm test body others) = AreSafe body × ArmsAreSafe others
