use Rattle.syntax_tree.specs.MainProgram.{main_program}
use Rattle.machine_steps.specs.Agrees.{IsOver}
use Rattle.machine_steps.specs.Machine.{steps}
use Rattle.code_meaning.specs.ProgramText.{text_meaning}
use Rattle.message_lines.specs.KeptLines.{AreKeptLines}
use Rattle.distributed_run.specs.StepLines.{IsListed}
use Rattle.distributed_run.proofs.OverRuns.{left}
use Rattle.distributed_run.proofs.ProgramLines.{ends}
use Rattle.distributed_run.proofs.machine_run.run_machine.Given as goal

abbrev pub invariant-steps : goal.invariant-steps
invariant-steps l = record {
  listed : IsListed l.program.accepted.now.program.names l.initial.machine l.machine l.initial.text.items l.text.items;
  kept : AreKeptLines l.machine.code l.program.accepted.now.program.names l.kept;
  ends : IsOver (steps text_meaning (ends l.program.accepted.now.grid.now (main_program l.program.accepted.now.program.tree) l.program.accepted.now.keeps.anywhere l.program.numbers l.program.known).0 l.machine).control.status;
}

abbrev pub decreases-steps : goal.decreases-steps
decreases-steps l = left text_meaning (ends l.program.accepted.now.grid.now (main_program l.program.accepted.now.program.tree) l.program.accepted.now.keeps.anywhere l.program.numbers l.program.known).0 l.machine
