use Rattle.std.proofs.Common.{ℕ, ◌<◌, drop}
use Rattle.hpf_base.specs.ElementOrder.{product}
use Rattle.owner_tables.specs.Columns.{extents_along}
use Rattle.owner_tables.specs.Stretches.{IsStretch}
use Rattle.owner_tables.proofs.lines.stretch_in.Given as goal

-- what is found in the dimensions that are left is found in all
abbrev pub invariant-loop-column : goal.invariant-loop-column
invariant-loop-column l = record {
  inside : l.number < product (extents_along (drop l.column-index l.columns));
  whole : (n apart : ℕ) → IsStretch (drop l.column-index l.columns) l.fn.node l.number l.beyond n apart
      → IsStretch l.columns l.fn.node l.fn.at l.fn.step n apart;
}
