use Rattle.all_pairs.specs.RowSteps.{IsOpenRow}
use Rattle.all_pairs.proofs.opening.open_row.Given as goal

abbrev pub invariant-loop-to : goal.invariant-loop-to
invariant-loop-to g l = IsOpenRow l.from l.to l.outs.items l.ins.items
