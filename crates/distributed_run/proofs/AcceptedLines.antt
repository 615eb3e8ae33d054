-- What an accepted program's machine has come to where it is over.
use Rattle.std.proofs.Common.{◌≡◌, ℕ, ◌++◌, List, [], Some, ap, ◌∙◌, subst}
use Rattle.hpf_base.specs.Grid.{IsGrid}
use Rattle.syntax_tree.specs.MainProgram.{MainProgram, main_program}
use Rattle.fitting_states.specs.FittingStates.{ProgramFits}
use Rattle.accepted_program.specs.declared.accepted.AcceptedProgram.{AcceptedProgram}
use Rattle.array_meaning.specs.Faults.{Fault}
use Rattle.array_meaning.specs.Serial.{serial}
use Rattle.machine_steps.specs.Agrees.{IsOver}
use Rattle.machine_steps.specs.Instr.{Remapping}
use Rattle.machine_steps.specs.Machine.{Machine, steps}
use Rattle.code_meaning.specs.Instructions.{remappings}
use Rattle.code_meaning.specs.ProgramText.{Text, text_meaning}
use Rattle.compiled_program.specs.GridRuns.{grid_opening}
use Rattle.compiled_program.specs.NewMappings.{program_mappings, program_remaps}
use Rattle.compiled_program.specs.ProgramRuns.{end_by_status}
use Rattle.distributed_run.specs.ProgramMessages.{messages_text}
use Rattle.distributed_run.specs.StepLines.{IsListed, lines_of_steps}
use Rattle.compiled_program.proofs.Accepted.{arrays-valid, moves-valid}
use Rattle.distributed_run.proofs.GridLaws.{AllMovesDealt}
use Rattle.distributed_run.proofs.ProgramLines.{AllMovesByNumber, AllTextsLowered, end-is, text-is}

module _ (a : AcceptedProgram) (is : IsGrid a.grid.now) (fit : ProgramFits (main_program a.program.tree)) (texts : AllTextsLowered) (dealt : AllMovesDealt) (numbers : AllMovesByNumber)
    (old new : Machine Text Fault) (before after : List ℕ) (empty : before ≡ []) (begins : old ≡ grid_opening a.grid.now (main_program a.program.tree))
    (listed : IsListed a.program.names old new before after) (over : IsOver new.control.status) where
  abbrev grid : List ℕ
  grid = a.grid.now

  abbrev p : MainProgram
  p = main_program a.program.tree

  abbrev moved : ℕ → List Remapping
  moved line = remappings (program_mappings grid p) (program_remaps grid p line)

  ran : new ≡ steps text_meaning listed.many (grid_opening grid p)
  ran = listed.ran ∙ ap (steps text_meaning listed.many) begins

  over-there : IsOver (steps text_meaning listed.many (grid_opening grid p)).control.status
  over-there = subst (λ (x : Machine Text Fault). IsOver x.control.status) ran over

  pub text-so : after ≡ messages_text grid p
  text-so =
      listed.lines moved ∙ ap (λ l. l ++ lines_of_steps a.program.names moved listed.many old) empty
      ∙ (λ i. lines_of_steps (a.names i) moved listed.many (begins i))
      ∙ text-is grid p texts dealt numbers a.keeps.anywhere fit is (arrays-valid a) (moves-valid a) listed.many over-there

  pub end-so : end_by_status new.control.status ≡ Some (serial p).end
  end-so =
      ap (λ (x : Machine Text Fault). end_by_status x.control.status) ran
      ∙ end-is grid p texts dealt numbers a.keeps.anywhere fit is (arrays-valid a) (moves-valid a) listed.many over-there
