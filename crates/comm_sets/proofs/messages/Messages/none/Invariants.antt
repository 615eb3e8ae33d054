use Rattle.std.proofs.Common.{◌≡◌, [], map, replicate}
use Rattle.storage.specs.Spots.{spot_of}
use Rattle.comm_sets.proofs.messages.Messages.none.Given as goal

abbrev pub invariant-loop-node : goal.invariant-loop-node
invariant-loop-node l = map (λ v. map spot_of v.items) l.lists.items ≡ replicate l._node []
