use Rattle.std.proofs.Common.{refl, suc}
use Rattle.slot_values.specs.Controls.{control_of}
use Rattle.slot_runs.proofs.runs.run_known.Goals as goal

pub loop-preserved : goal.loop-preserved
loop-preserved c =
    let one = c.if-not-run_next.ensures.run refl in
    record { run = (suc c.loop.invariant.run.0, (control_of c.loop.c, c.loop.invariant.run.1, one)); running = one.after }
