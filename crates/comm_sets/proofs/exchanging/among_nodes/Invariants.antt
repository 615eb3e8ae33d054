use Rattle.std.proofs.Common.{◌≡◌, [], filter, replicate}
use Rattle.std.specs.List.{range_with_len}
use Rattle.comm_sets.specs.Noted.{Noted}
use Rattle.comm_sets.proofs.Sent.{is_sent_below}
use Rattle.comm_sets.proofs.exchanging.among_nodes.Given as goal

-- of the tuples so far: what is sent, what is taken, and which of them the node computes
abbrev pub invariant-loop-tuple : goal.invariant-loop-tuple
invariant-loop-tuple g l = record {
  outgoing : Noted (replicate l.owners.nodes []) l.outgoing (λ to s. is_sent_below l.owners.nodes l.owners.layouts (g.P.Reads.part l.part) l.tuple l.id to s);
  incoming : Noted (replicate l.owners.nodes []) l.incoming (λ from s. is_sent_below l.owners.nodes l.owners.layouts (g.P.Reads.part l.part) l.tuple from l.id s);
  computed : l.computed.items ≡ filter ((g.P.Reads.part l.part).computes l.id) (range_with_len 0 l.tuple);
}
