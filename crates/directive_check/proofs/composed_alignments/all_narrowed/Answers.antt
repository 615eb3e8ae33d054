use Rattle.std.proofs.Common.{ap}
use Rattle.directive_check.specs.Chains.{known_or_past}
use Rattle.directive_check.specs.WideAlignments.{narrowed}
use Rattle.directive_check.proofs.ListTurns.{made_stop}
use Rattle.directive_check.proofs.composed_alignments.all_narrowed.Goals as goal

pub returns-in-None : goal.returns-in-None
returns-in-None c =
    ap known_or_past (made_stop narrowed c.args.entries.now c.loop-entry.entry-index _ c.loop-entry.narrow.items
    c.loop-entry-test.true c.in-None.ensures c.loop-entry.invariant)
