-- Instructions that were run one after another are local steps of the node.
use Rattle.std.proofs.Common.{◌≡◌, ℕ, zero, suc, ◌<◌, List, sym, ◌∙◌, ap, ⊎_elim, arith}
use Rattle.std.specs.Prelude.{option_map}
use Rattle.std.proofs.lemmas.Bool.{cases_lt}
use Rattle.std.proofs.lemmas.Option.{slice_get-map}
use Rattle.mappings.specs.declared.mapping.Mapping.{Mapping}
use Rattle.expression_rules.specs.declared.dims.Dim.{Dim}
use Rattle.array_meaning.specs.Faults.{Fault}
use Rattle.node_law.specs.LocalSteps.{AreLocalSteps, after_locals}
use Rattle.node_law.specs.declared.act.Act.TheVariants.{Local as LocalAct}
use Rattle.node_law.specs.NodeSteps.{NodeSteps}
use Rattle.letters.specs.declared.letter.Letter.{Letter}
use Rattle.machine_steps.specs.Instr.{Control, Local}
use Rattle.machine_steps.specs.Machine.{instr_at, instr_of}
use Rattle.machine_steps.specs.Node.{Node, Ready, act_of, begun_by, node_steps, worked_by}
use Rattle.code_meaning.specs.FaultValues.{fault_values}
use Rattle.node_code.specs.Instructions.{Instruction}
use Rattle.code_meaning.specs.ProgramText.{Text, table_on, text, text_meaning, texts}
use Rattle.slot_runs.specs.Runs.{AreRun, IsRunOne}
use Rattle.slot_values.specs.LocalInstructions.{local_control}
use Rattle.slot_values.proofs.LocalInstructions.{local_meaning}

abbrev S : NodeSteps (Node Text Fault) Letter
S = node_steps fault_values text_meaning

-- a node that stands before an instruction
module _ (maps : List Mapping) (shapes : List (List Dim)) (is : List Instruction) (a : Node Text Fault)
    (code : a.code ≡ texts a.nodes maps shapes is) (stage : a.stage ≡ Ready) (substep : a.substep ≡ 0) where
  abbrev with_control : Control Fault → Node Text Fault
  with_control c = record a { control = c }

  one-step : (m c : Control Fault) → IsRunOne is m c → S.after_local (with_control m) ≡ with_control c
  one-step m c one =
      let there : instr_at text_meaning a.code m.at ≡ Local (local_control shapes one.instruction) =
      ap (λ xs. instr_at text_meaning xs m.at) code ∙ ap (instr_of text_meaning) (slice_get-map (text a.nodes maps shapes) is m.at ∙ ap (option_map (text a.nodes maps shapes)) one.at)
      ∙ local_meaning (table_on a.nodes maps shapes) one.instruction one.local in
      ap (λ s. worked_by fault_values text_meaning s (with_control m)) stage
      ∙ ap (λ x. begun_by fault_values a.nodes x (with_control m)) there
      ∙ sym (λ i. record a { control = one.does shapes i; substep = substep i })

  after-run : (n : ℕ) (c : Control Fault) → AreRun is n a.control c → after_locals S n a ≡ with_control c
  after-run zero c e = ap with_control (sym e)
  after-run (suc n) c run = ap S.after_local (after-run n run.0 run.1) ∙ one-step run.0 c run.2

  due-run : (n : ℕ) (c : Control Fault) → AreRun is n a.control c → (k : ℕ) → k < n → S.act (after_locals S k a) ≡ LocalAct
  due-run zero c e k lt = let f : ⊥ = omega (arith, lt) in absurd f
  due-run (suc n) c run k lt =
      ⊎_elim (λ w. due-run n run.0 run.1 k w)
      (λ le. let e : k ≡ n = omega (arith, lt, le) in ap (λ j. S.act (after_locals S j a)) e ∙ ap S.act (after-run n run.0 run.1) ∙ (λ i. act_of (run.2.before i) (stage i)))
      (cases_lt k n)

  pub run-steps : (n : ℕ) (c : Control Fault) → AreRun is n a.control c → AreLocalSteps S a (with_control c)
  run-steps n c run = record { count = n; due = due-run n c run; after = sym (after-run n c run) }
