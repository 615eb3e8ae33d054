use Rattle.std.proofs.Common.{◌≡◌, length}
use Rattle.node_core_tests.proofs.tests.rounds.Given as goal

abbrev pub invariant-loop : goal.invariant-loop
invariant-loop l = length l.core.lists.nodes ≡ 3

abbrev pub invariant-loop-node : goal.invariant-loop-node
invariant-loop-node l = length l.core.lists.nodes ≡ 3
