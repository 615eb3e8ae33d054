use Rattle.std.proofs.Common.{◌-◌, drop, length}
use Rattle.hpf_base.specs.ElementOrder.{product}
use Rattle.owner_tables.specs.Columns.{extents_along, parts_at}
use Rattle.owner_tables.specs.Samples.{AreSamples}
use Rattle.owner_tables.proofs.samples.samples.Given as goal

-- of the slower dimensions
abbrev pub invariant-loop-done : goal.invariant-loop-done
invariant-loop-done l =
    AreSamples (product (extents_along (drop (length l.one - l.done) l.one))) (parts_at (drop (length l.one - l.done) l.one)) (parts_at (drop (length l.one - l.done) l.other))
    l.positions.items
