use Rattle.std.proofs.Common.{◌≡◌, ◌++◌, ◌*◌, ◌^◌, ◌≤◌, All, drop, length, replicate}
use Rattle.hpf_base.specs.ElementOrder.{extents_of, product}
use Rattle.owner_tables.specs.Columns.{columns_of, totals_of}
use Rattle.owner_tables.proofs.numbers.columns_of.Given as goal

-- the dimensions so far, before those that are left
abbrev pub invariant-loop-dim : goal.invariant-loop-dim
invariant-loop-dim l =
    (l.columns.items ++ columns_of l.mapping l.shape.lower l.dim (drop l.dim (extents_of l.shape)) l.strides.items
    ≡ columns_of l.mapping l.shape.lower 0 (extents_of l.shape) (replicate l.nodes 1))
    × (totals_of l.mapping l.shape.lower l.dim (drop l.dim (extents_of l.shape)) l.strides.items
    ≡ totals_of l.mapping l.shape.lower 0 (extents_of l.shape) (replicate l.nodes 1))
    × (length l.strides.items ≡ l.nodes)
    × All (λ stride. stride * product (drop l.dim (extents_of l.shape)) ≤ 2 ^ 20) l.strides.items
