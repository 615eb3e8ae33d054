use Rattle.std.proofs.Common.{◌≡◌, ◌++◌, vec_capacity}
use Rattle.node_crew.proofs.threads.finish_all.Given as goal

abbrev pub invariant-loop-crew : goal.invariant-loop-crew
invariant-loop-crew g l = (l.done.items ≡ l.yielded) × (vec_capacity l.done ≡ vec_capacity l.fn.done)

abbrev pub invariant-loop-crew-2 : goal.invariant-loop-crew-2
invariant-loop-crew-2 g l = (l.done.items ≡ l.fn.started.items ++ l.yielded) × (vec_capacity l.done ≡ vec_capacity l.fn.done)
