-- Of private clauses.
-- No public clause cites this file. The statements of a nest one by one.
use Rattle.std.specs.Prelude.{◌≡◌, ℕ, ◌+◌, List, ◌∷◌, ◌++◌, length, Bool, true, false, Option, Some}
use Rattle.array_meaning.specs.Terms.{Term}
use Rattle.array_meaning.specs.Statements.{Statement, If, Do}
use Rattle.resolved_program.specs.declared.statements.Arm.{Arm as HeldArm, out-Arm}
use Rattle.resolved_program.specs.Resolved.{block_of, term}
use Rattle.node_code.specs.Instructions.{Instruction}
use Rattle.program_code.specs.NestInstructions.{NoText, count_nest, count_nest_arms}
use Rattle.program_code.specs.NestInstructions as forms
use Rattle.program_code.specs.NestCode.{Lined, PlainBody, PlainArms, plain, plain_arms, plain_else, plain_in}
use Rattle.node_codegen.specs.declared.nest_names.NestNames.{NestNames}
use Rattle.node_codegen.specs.NestNames.{arms_by, body_by}

-- no statement does something
abbrev pub is_bare : PlainBody → Bool
is_bare NoText = true
is_bare body = false

-- how many stored conditions a statement has
abbrev pub statement_conditions : Statement → ℕ
statement_conditions (If arms other) = count_nest_arms (plain_arms arms (plain_else (plain other)))
statement_conditions (Do mark loop body) = count_nest (plain body)
statement_conditions statement = 0

-- a statement has this code, whatever stands after it
abbrev pub IsTextCode : NestNames → ℕ → Statement → Option ℕ → (k b pc : ℕ) → List Instruction → Type 0
IsTextCode w line statement guard k b pc c = (rest : PlainBody) →
    body_by w (plain_in line statement rest) guard k b pc ≡ c ++ body_by w rest guard (k + statement_conditions statement) b (pc + length c)

-- what an arm tests, and its body
abbrev pub arm_test : HeldArm → Option (Lined Term)
arm_test a = Some (record { line = (out-Arm a).line; text = term (out-Arm a).condition })

abbrev pub arm_body : HeldArm → PlainBody
arm_body a = plain (block_of (out-Arm a).body.items)

-- an arm has this code, whatever stands after it
abbrev pub IsArmCode : NestNames → Option (Lined Term) → PlainBody → Option ℕ → List ℕ → (k b pc : ℕ) → List Instruction → Type 0
IsArmCode w test body guard earlier k b pc c = (others : PlainArms) →
    arms_by w (forms.AndArm test body others) guard earlier k b pc ≡ c ++ arms_by w others guard (k ∷ earlier) (k + 1 + count_nest body) b (pc + length c)
