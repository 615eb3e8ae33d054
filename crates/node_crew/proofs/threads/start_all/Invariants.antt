use Rattle.std.proofs.Common.{◌≡◌, ◌+◌, ◌++◌, length, vec_capacity}
use Rattle.node_crew.proofs.threads.start_all.Given as goal

abbrev pub invariant-loop-crew : goal.invariant-loop-crew
invariant-loop-crew g l = (l.started.items ++ l.here.items ≡ l.yielded)
    × (length l.started.items + length l.here.items ≡ length l.yielded)
    × (vec_capacity l.started ≡ vec_capacity l.fn.started)
    × (vec_capacity l.here ≡ vec_capacity l.fn.here)
