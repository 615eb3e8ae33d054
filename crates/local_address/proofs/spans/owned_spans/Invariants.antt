use Rattle.std.proofs.Common.{◌≡◌, map}
use Rattle.std.specs.List.{range_with_len}
use Rattle.mappings.specs.LocalOrder.{local_elements}
use Rattle.local_address.specs.Spans.{span_of}
use Rattle.local_address.proofs.spans.owned_spans.Given as goal

-- what the nodes so far own
abbrev pub invariant-loop-node : goal.invariant-loop-node
invariant-loop-node l = l.spans.items ≡ map (λ node. span_of (local_elements l.map l.shape node)) (range_with_len 0 l.node)
