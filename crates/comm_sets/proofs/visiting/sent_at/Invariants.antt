use Rattle.std.proofs.Common.{[], replicate, take}
use Rattle.comm_sets.specs.Noted.{Noted}
use Rattle.comm_sets.proofs.Visited.{is_sent_among}
use Rattle.comm_sets.proofs.visiting.sent_at.Given as goal

-- what is sent at the tuples so far
abbrev pub invariant-loop-tuple : goal.invariant-loop-tuple
invariant-loop-tuple g l =
    Noted (replicate l.owners.nodes []) l.messages (λ to s. is_sent_among l.owners.nodes l.owners.layouts (g.P.Reads.part l.part) (take l.tuple-index l.tuples) l.id to s)
