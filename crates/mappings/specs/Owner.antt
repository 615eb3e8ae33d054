-- Of the claim.
-- Who owns a position of a distributed dimension (HPF 2.0, 3.3). Positions past the extent have a coordinate by this
-- definition too; each public call asks for a position from 1 to the extent.
use Rattle.std.specs.Prelude.{ℕ, ◌-◌, ◌%◌, max, pos, nat_le}
use Rattle.std.specs.List.{position_or_len}
use Rattle.std.specs.Int.{div_ceil}
use Rattle.mappings.specs.declared.mapping.Form.{Form}
use Rattle.mappings.specs.declared.mapping.Form.TheVariants.{Whole, Block, Cyclic, Gen}
use Rattle.mappings.specs.declared.mapping.Line.{Line}
use Rattle.mappings.specs.GenBlock.{block_ends}

-- the coordinate, from 0, of the processor that owns a position under a format; under GEN_BLOCK it is the least for which the sizes up to
-- and with its own have a sum that is at least the position
abbrev pub coordinate_under : Form → ℕ → ℕ → ℕ
coordinate_under Whole procs position = 0
coordinate_under (Block m) procs position = div_ceil position m - 1
coordinate_under (Cyclic k) procs position = (div_ceil position k - 1) % procs
coordinate_under (Gen sizes) procs position = position_or_len (nat_le position) (block_ends sizes)

abbrev pub coordinate : Line → ℕ → ℕ
coordinate line position = coordinate_under line.form line.procs position

-- the size of a block where DISTRIBUTE names none: the least with which all positions are dealt out, and at least 1
abbrev pub default_block : ℕ → ℕ → ℕ
default_block extent procs = max 1 (div_ceil extent procs)

-- a dimension from 1 to extent under BLOCK on so many processors
abbrev pub block_line : ℕ → ℕ → Line
block_line extent procs = record { lower = pos 1; extent = extent; form = Block (default_block extent procs); procs = procs }
