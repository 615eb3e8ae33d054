use Rattle.all_pairs.proofs.OpenRows.{AreOpenRows}
use Rattle.all_pairs.proofs.opening.open_pairs.Given as goal

abbrev pub invariant-loop-from : goal.invariant-loop-from
invariant-loop-from g l = AreOpenRows l.count l.from l.outs.items l.ins.items
