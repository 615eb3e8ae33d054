use Rattle.std.proofs.Common.{◌≡◌, filter}
use Rattle.comm_sets.specs.Marks.{is_marked_pair}
use Rattle.covering_rounds.proofs.Pairs.{pairs_from}
use Rattle.comm_sets.proofs.rounds.marked_pairs.Given as goal

abbrev pub invariant-loop-from : goal.invariant-loop-from
invariant-loop-from l = l.pairs.items ≡ filter (is_marked_pair l.marks) (pairs_from l.nodes 0 l.from)
