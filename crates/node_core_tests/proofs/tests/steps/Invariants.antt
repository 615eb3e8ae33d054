use Rattle.std.proofs.Common.{◌≡◌, length}
use Rattle.node_core_tests.proofs.tests.steps.Given as goal

abbrev pub invariant-loop : goal.invariant-loop
invariant-loop l = length l.core.lists.nodes ≡ length l.initial.core.lists.nodes
