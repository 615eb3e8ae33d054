use Rattle.std.proofs.Common.{◌≡◌, drop}
use Rattle.array_meaning.specs.Execution.{run_block}
use Rattle.resolved_program.specs.Resolved.{block_of}
use Rattle.term_values.specs.States.{state_of}
use Rattle.serial_run.proofs.known_steps.known_steps.Given as goal

-- what is left to run from here is the whole
abbrev pub invariant-loop-i : goal.invariant-loop-i
invariant-loop-i l = run_block (block_of l.statements) (state_of l.fn.s) ≡ run_block (block_of (drop l.i l.statements)) (state_of l.s)
