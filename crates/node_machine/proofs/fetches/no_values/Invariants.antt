use Rattle.std.proofs.Common.{◌≡◌, ◌≤◌}
use Rattle.machine_steps.specs.Node.{no_values}
use Rattle.node_machine.proofs.fetches.no_values.Given as goal

abbrev pub invariant-loop : goal.invariant-loop
invariant-loop l = (l.bodies.items ≡ no_values l.counter) × (l.counter ≤ l.nodes)
