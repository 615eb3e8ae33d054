use Rattle.std.proofs.Common.{◌≡◌, ◌-◌, ◌+◌, length}
use Rattle.visited_objects.specs.Visits.{visits_of}
use Rattle.visited_objects.proofs.visits.Visits.reach.Given as goal

abbrev pub invariant-loop-alloc : goal.invariant-loop-alloc
invariant-loop-alloc l = visits_of l.self-inside.rows.items ≡ visits_of l.fn.self

abbrev pub decreases-loop-alloc : goal.decreases-loop-alloc
decreases-loop-alloc l = l.name + 1 - length l.self-inside.rows.items
