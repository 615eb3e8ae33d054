use Rattle.std.proofs.Common.{◌≡◌, ◌++◌}
use Rattle.comm_sets.specs.Marks.{is_marked_pair}
use Rattle.comm_sets.proofs.Pairs.{passing}
use Rattle.comm_sets.proofs.rounds.push_pairs.Given as goal

abbrev pub invariant-loop-to : goal.invariant-loop-to
invariant-loop-to l = l.pairs.items ≡ l.initial.pairs.items ++ passing (is_marked_pair l.marks) l.from l.to
