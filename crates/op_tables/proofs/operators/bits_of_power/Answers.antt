use Rattle.std.proofs.Common.{◌^◌, ◌∙◌}
use Rattle.op_tables.proofs.Powers.{even_step, odd_step}
use Rattle.op_tables.proofs.operators.bits_of_power.Goals as goal
use Rattle.op_tables.proofs.operators.bits_of_power.Goals.{then-left-eq1, else-left-eq1}

pub loop-left-preserved : goal.loop-left-preserved
loop-left-preserved c =
    let l = c.loop-left in
    elim c.if-left-eq1.branch [
      | then-left-eq1 w ↦ rw w.power-is (odd_step l.power l.square l.left (2 ^ 64) w.if-left-eq1.true ∙ l.invariant)
      | else-left-eq1 w ↦ rw w.power-is (even_step l.power l.square l.left (2 ^ 64) w.if-left-eq1.false ∙ l.invariant)
    ]
