use Rattle.std.proofs.Common.{◌≡◌, ◌++◌, drop}
use Rattle.hpf_base.specs.ElementOrder.{extents_of}
use Rattle.local_address.specs.Pieces.{owned_along}
use Rattle.local_address.proofs.piece.owned_dims.Given as goal

-- what the node owns along the dimensions so far, before that along those that are left
abbrev pub invariant-loop-dim : goal.invariant-loop-dim
invariant-loop-dim l =
    l.dims.items ++ owned_along l.map l.node.0 l.dim (drop l.dim l.shape.lower) (drop l.dim (extents_of l.shape))
    ≡ owned_along l.map l.node.0 0 l.shape.lower (extents_of l.shape)
