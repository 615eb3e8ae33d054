use Rattle.std.proofs.Common.{◌≡◌, ◌*◌, ◌%◌, ◌^◌}
use Rattle.op_tables.proofs.operators.bits_of_power.Given as goal

-- what is left to multiply gives the whole power
abbrev pub invariant-loop-left : goal.invariant-loop-left
invariant-loop-left l = (l.power * l.square ^ l.left) % 2 ^ 64 ≡ (l.base ^ l.exponent) % 2 ^ 64

abbrev pub decreases-loop-left : goal.decreases-loop-left
decreases-loop-left l = l.left
