-- No line of an instruction depends on what the setting says that lines move.
use Rattle.std.proofs.Common.{◌≡◌, ℕ, ℤ, List, [], refl, ◌∙◌}
use Rattle.expression_rules.specs.declared.dims.Dim.{Dim}
use Rattle.mappings.specs.declared.mapping.Mapping.{Mapping}
use Rattle.machine_steps.specs.Instr.{Remapping}
use Rattle.machine_steps.specs.Layout.{Layout}
use Rattle.message_text.specs.Parts.{Setting}
use Rattle.message_text.specs.InstructionLines.{instruction_lines, nest_lines}
use Rattle.node_code.specs.declared.nest.NestRole.{NestRole}
use Rattle.node_code.specs.declared.nest.NestRole.TheVariants.{Assigns, Tests, SetsElse, SetsMark}
use Rattle.node_code.specs.NestStatements.{NestStatement}
use Rattle.node_code.specs.Instructions.{Instruction, Par, ParForall, ParNest, ParCopy, ParForallCopy, Reduce, Remap}

module _ (maps : List Mapping) where
  abbrev setting : ℕ → List (List ℕ) → List (List Dim) → (ℕ → List Remapping) → Setting
  setting nodes names shapes moves = record { nodes = nodes; names = names; shapes = shapes; moves = moves; copies = []; copied = [] }

  module _ (names : List (List ℕ)) (shapes : List (List Dim)) (one other : ℕ → List Remapping) (layouts : List Layout) (slots : List ℤ) where
    nest-same : (nodes : ℕ) (p : NestStatement) (role : NestRole)
        → nest_lines role (setting nodes names shapes one) layouts p slots ≡ nest_lines role (setting nodes names shapes other) layouts p slots
    nest-same nodes p Assigns = refl
    nest-same nodes p Tests = refl
    nest-same nodes p SetsElse = refl
    nest-same nodes p SetsMark = refl

    same-nodes : (nodes : ℕ) (i : Instruction)
        → instruction_lines maps (setting nodes names shapes one) layouts i slots ≡ instruction_lines maps (setting nodes names shapes other) layouts i slots
    same-nodes nodes (Par p) = refl
    same-nodes nodes (ParForall p) = refl
    same-nodes nodes (ParNest p) = nest-same nodes p p.role
    same-nodes nodes (ParCopy copy p) = refl
    same-nodes nodes (ParForallCopy copy p) = refl
    same-nodes nodes (Reduce p r x) = refl
    same-nodes nodes (Remap line new) = refl
    same-nodes nodes i = refl

  -- the same where the numbers of nodes are equal
  pub moves-apart : (nodes count : ℕ) (names : List (List ℕ)) (shapes : List (List Dim)) (one other : ℕ → List Remapping) (layouts : List Layout) (i : Instruction)
      (slots : List ℤ) → nodes ≡ count
      → instruction_lines maps (setting nodes names shapes one) layouts i slots ≡ instruction_lines maps (setting count names shapes other) layouts i slots
  moves-apart nodes count names shapes one other layouts i slots same =
      same-nodes names shapes one other layouts slots nodes i ∙ (λ k. instruction_lines maps (setting (same k) names shapes other) layouts i slots)
