-- The code of statements that hold others, by the parts of a plan.
use Rattle.std.proofs.Common.{◌≡◌, ℕ, ◌+◌, List, ◌++◌, Global, Option, Vec, length, sym, ap, ◌∙◌}
use Rattle.std.proofs.lemmas.List.{length-map}
use Rattle.node_code.specs.declared.instruction.Instruction.{Instruction as HeldInstruction}
use Rattle.node_code.specs.Instructions.{Instruction, NewMapping}
use Rattle.node_code.specs.Texts.{instruction, instructions}
use Rattle.resolved_program.specs.declared.statements.Action.{Action}
use Rattle.resolved_program.specs.declared.statements.Action.TheVariants as action
use Rattle.resolved_program.specs.declared.statements.Arm.{Arm}
use Rattle.resolved_program.specs.declared.statements.Loop.{Loop}
use Rattle.resolved_program.specs.declared.statements.Nest.{Nest}
use Rattle.resolved_program.specs.declared.statements.Statement.{Statement}
use Rattle.resolved_program.specs.Resolved.{arms_of, block_of, loop_of, mark, statement}
use Rattle.resolved_program.proofs.Rows.{do_vec, if_vec}
use Rattle.program_code.specs.ExpressionCode.{control_code, control_slots}
use Rattle.program_code.specs.StatementCode.{block_code, entry_code, loop_code, marked_code, statement_code}
use Rattle.node_codegen.specs.Arms.{AreArms, arms_before}

-- an IF, by the codes of its arms
pub if_is : (copy : ℕ) (moves : ℕ → List NewMapping) (line b pc leave again : ℕ) (a : Action) (as' : Vec Arm Global) (other : Vec Statement Global) (cs : List (List Instruction)) (after : ℕ) →
    a ≡ action.If as' other → AreArms copy moves (arms_of as'.items) b pc leave again cs after →
    statement_code copy moves line (statement a) b pc leave again ≡ arms_before after cs (λ pc. block_code copy moves (block_of other.items) b pc leave again)
if_is copy moves line b pc leave again a as' other cs after is arms =
    ap (λ a. statement_code copy moves line (statement a) b pc leave again) is
    ∙ ap (λ s. statement_code copy moves line s b pc leave again) (if_vec as' other)
    ∙ arms (λ pc. block_code copy moves (block_of other.items) b pc leave again)

-- a DO, by the code before its turns and that of these
pub do_is : (copy : ℕ) (moves : ℕ → List NewMapping) (line b pc leave again first at : ℕ) (a : Action) (nest : Option Nest) (l : Loop) (body : Vec Statement Global)
    (head : List HeldInstruction) (turns : List Instruction) → a ≡ action.Do nest l body → first ≡ b + control_slots (loop_of l).control →
    instructions head ≡ control_code line b (loop_of l).control ++ entry_code line (mark nest (loop_of l) (block_of body.items)) first → at ≡ pc + length head →
    turns ≡ marked_code copy line (mark nest (loop_of l) (block_of body.items)) first at (loop_code line at first l.index (block_code copy moves (block_of body.items) (first + 4))) →
    instructions head ++ turns ≡ statement_code copy moves line (statement a) b pc leave again
do_is copy moves line b pc leave again first at a nest l body head turns is slots bounds place code =
    let before = bounds ∙ ap (λ v. control_code line b (loop_of l).control ++ entry_code line (mark nest (loop_of l) (block_of body.items)) v) slots in
    let own = λ (place first : ℕ). marked_code copy line (mark nest (loop_of l) (block_of body.items)) first place
    (loop_code line place first l.index (block_code copy moves (block_of body.items) (first + 4))) in
    ap (λ t. instructions head ++ t) code
    ∙ (λ i. before i ++ own ((place ∙ ap (λ n. pc + n) (sym (length-map head instruction) ∙ ap length before)) i) (slots i))
    ∙ sym (ap (λ a. statement_code copy moves line (statement a) b pc leave again) is ∙ ap (λ s. statement_code copy moves line s b pc leave again) (do_vec nest l body))
