use Rattle.std.proofs.Common.{map}
use Rattle.storage.specs.Spots.{spot_of}
use Rattle.comm_sets.specs.Noted.{ArrangedTo}
use Rattle.comm_sets.proofs.messages.Messages.arrange.Given as goal

abbrev pub invariant-loop-node : goal.invariant-loop-node
invariant-loop-node l = ArrangedTo l.node (map (λ v. map spot_of v.items) l.initial.self-inside.lists.items) (map (λ v. map spot_of v.items) l.self-inside.lists.items)
