use Rattle.std.proofs.Common.{◌≡◌, ◌++◌, drop}
use Rattle.hpf_base.specs.ElementOrder.{extents_of}
use Rattle.local_address.specs.Runs.{columns_of}
use Rattle.local_address.proofs.columns.columns.Given as goal

-- the columns so far, before those that are left
abbrev pub invariant-loop-dim : goal.invariant-loop-dim
invariant-loop-dim l =
    l.columns.items ++ columns_of l.map l.dim (drop l.dim l.shape.lower) (drop l.dim (extents_of l.shape))
    ≡ columns_of l.map 0 l.shape.lower (extents_of l.shape)
