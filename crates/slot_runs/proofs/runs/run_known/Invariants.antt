use Rattle.std.proofs.Common.{◌≡◌, ℕ}
use Rattle.machine_steps.specs.Instr.{Running}
use Rattle.node_code.specs.Texts.{instructions}
use Rattle.slot_values.specs.Controls.{control_of}
use Rattle.slot_runs.specs.Runs.{AreRun}
use Rattle.slot_runs.proofs.runs.run_known.Given as goal

-- some were run, and the run goes on
abbrev pub invariant-loop : goal.invariant-loop
invariant-loop l = record {
  run : (count : ℕ) × AreRun (instructions l.code) count (control_of l.fn.c) (control_of l.c);
  running : (control_of l.c).status ≡ Running;
}
