-- Of a promise.
-- What the texts of a nest come to at an iteration.
use Rattle.std.specs.Prelude.{ℕ, List, ℤ, Option, option_map, Ok}
use Rattle.op_tables.specs.Operators.{is_true}
use Rattle.expression_rules.specs.declared.dims.Dim.{Dim}
use Rattle.storage.specs.Storage.{Spot}
use Rattle.array_meaning.specs.Faults.{Fault, ◌>>=◌}
use Rattle.array_meaning.specs.State.{if_in_bounds}
use Rattle.machine_steps.specs.Instr.{Outcome}
use Rattle.node_code.specs.Forms.{Sub}
use Rattle.code_meaning.specs.Parallel.{at_line, outcome_of}
use Rattle.node_code.specs.NestStatements.{NestLeft}
use Rattle.code_meaning.specs.NestStatements.{nest_place, left_row, form_reads, form_value}
use Rattle.program_code.specs.NestTexts.{NestText, NestTest}
use Rattle.nest_machine.specs.BodyCode.{Texts}
use Rattle.nest_machine.specs.ItemsAt.{truth_outcome}

-- `over` are the indices of the nest, and `shapes` the dimensions of the arrays
module _ (shapes : List (List Dim)) (over : List Sub) where
  -- where the value is stored
  abbrev pub left_spot : NestLeft → List ℤ → ℕ → Option Spot
  left_spot l slots t = option_map (λ k. record { row = left_row shapes over l; at = k }) (nest_place shapes over l slots t)

  -- what an assignment comes to: the left side's bounds come before the right side. Its fault has no tuple
  abbrev pub text_outcome : NestText → List ℤ → ℕ → List ℤ → Outcome Fault
  text_outcome p slots t values =
      outcome_of (at_line p.line (if_in_bounds (nest_place shapes over p.left slots t) >>= (λ k. form_value shapes over p.copies p.right slots t values)))

  -- what a condition comes to: 1 or 0
  abbrev pub test_outcome : NestTest → List ℤ → ℕ → List ℤ → Outcome Fault
  test_outcome p slots t values = truth_outcome (at_line p.line (form_value shapes over p.copies p.form slots t values >>= (λ v. Ok (is_true v))))

  -- the texts of a nest, where those of any types A and C are such texts
  abbrev pub nest_texts : {A C : Type 0} → (A → NestText) → (C → NestTest) → Texts A C Fault
  nest_texts text_of test_of = record {
    reads = λ a slots t. form_reads shapes over (text_of a).copies (text_of a).right slots t;
    outcome = λ a slots t values. text_outcome (text_of a) slots t values;
    left = λ a slots t. left_spot (text_of a).left slots t;
    mark = λ a. (text_of a).mark;
    condition_reads = λ c slots t. form_reads shapes over (test_of c).copies (test_of c).form slots t;
    condition = λ c slots t values. test_outcome (test_of c) slots t values;
  }
