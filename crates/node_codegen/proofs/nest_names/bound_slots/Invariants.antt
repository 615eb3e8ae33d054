use Rattle.std.proofs.Common.{◌≡◌, ◌++◌, drop, map, reverse}
use Rattle.node_code.specs.Forms.{SubAlong}
use Rattle.program_code.specs.NestCode.{along}
use Rattle.node_codegen.specs.NestNames.{with_index}
use Rattle.node_codegen.proofs.nest_names.bound_slots.Given as goal

-- those of the loops that are left, before those so far
abbrev pub invariant-loop-index : goal.invariant-loop-index
invariant-loop-index l = along l.at (map with_index (drop l._index-index l.indices)) ++ map SubAlong (reverse l.slots.items) ≡ along l.v (map with_index l.indices)
