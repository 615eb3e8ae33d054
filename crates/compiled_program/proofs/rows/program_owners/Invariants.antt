use Rattle.std.proofs.Common.{◌≡◌, ◌++◌, All, drop}
use Rattle.array_maps.specs.Maps.{IsArrayMap}
use Rattle.nodes_lowered.specs.ProgramLayouts.{program_layouts}
use Rattle.compiled_program.proofs.rows.program_owners.Given as goal

-- those so far, before those that are left, are all
abbrev pub invariant-loop-place : goal.invariant-loop-place
invariant-loop-place l = record {
  nodes : l.owners.nodes ≡ l.nodes;
  valid : All (IsArrayMap l.nodes) l.rest;
  layouts : l.owners.layouts ++ program_layouts l.nodes l.copies (drop l.place l.names) l.rest ≡ program_layouts l.nodes l.copies l.names l.maps;
}
