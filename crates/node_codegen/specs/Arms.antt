-- Of private clauses.
-- IF and its ELSE IFs, before it is known where the IF ends.
use Rattle.std.specs.Prelude.{◌≡◌, ℕ, ◌+◌, List, [], ◌∷◌, ◌++◌, Vec, length, map}
use Rattle.std.specs.Global.{Global}
use Rattle.std.specs.List.{flat_map}
use Rattle.array_meaning.specs.Statements.{Arms}
use Rattle.node_code.specs.declared.instruction.Instruction.{Instruction as HeldInstruction}
use Rattle.node_code.specs.Instructions.{Instruction, Jump, NewMapping}
use Rattle.node_code.specs.Texts.{instructions}
use Rattle.resolved_program.specs.declared.statements.Arm.{Arm as HeldArm}
use Rattle.resolved_program.specs.Resolved.{with_arm}
use Rattle.program_code.specs.StatementCode.{arms_code}

abbrev pub codes : List (Vec HeldInstruction Global) → List (List Instruction)
codes = map (λ c. instructions c.items)

-- codes, each with a jump after it
abbrev pub jumping_to : ℕ → List (List Instruction) → List Instruction
jumping_to end = flat_map (λ c. c ++ Jump end ∷ [])

-- a jump over what stands after it, which is given by the place where it begins
abbrev pub jump_over : ℕ → (ℕ → List Instruction) → List Instruction
jump_over after rest = Jump (after + length (rest after)) ∷ rest after

-- codes that jump over what stands after all of them
abbrev pub arms_before : ℕ → List (List Instruction) → (ℕ → List Instruction) → List Instruction
arms_before after cs rest = jumping_to (after + length (rest after)) cs ++ rest after

-- an arm has this code before its jump, whatever stands after it
abbrev pub IsArm : ℕ → (ℕ → List NewMapping) → HeldArm → ℕ → ℕ → ℕ → ℕ → List Instruction → Type 0
IsArm copy moves a b pc leave again c = (tail : Arms) (other : ℕ → List Instruction) →
    arms_code copy moves (with_arm a tail) other b pc leave again ≡ c ++ jump_over (pc + length c + 1) (λ pc. arms_code copy moves tail other b pc leave again)

-- arms have these codes before their jumps, up to a place, whatever stands there
abbrev pub AreArms : ℕ → (ℕ → List NewMapping) → Arms → ℕ → ℕ → ℕ → ℕ → List (List Instruction) → ℕ → Type 0
AreArms copy moves arms b pc leave again cs after = (other : ℕ → List Instruction) → arms_code copy moves arms other b pc leave again ≡ arms_before after cs other
