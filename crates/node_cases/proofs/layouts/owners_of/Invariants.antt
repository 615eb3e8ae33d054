use Rattle.std.proofs.Common.{◌≡◌}
use Rattle.node_cases.proofs.layouts.owners_of.Given as goal

-- the tables are those of so many nodes
abbrev pub invariant-loop-map : goal.invariant-loop-map
invariant-loop-map l = l.owners.nodes ≡ l.nodes

abbrev pub invariant-loop-copy : goal.invariant-loop-copy
invariant-loop-copy l = l.owners.nodes ≡ l.nodes
