-- Of private clauses.
-- No public clause cites this file. New mappings on a node.
use Rattle.std.specs.Prelude.{◌≡◌, ◌==◌, ℕ, true, List, length, map, nat_lt, if◌then◌else◌}
use Rattle.std.specs.List.{list_all}
use Rattle.hpf_base.specs.declared.index.Shape.{Shape}
use Rattle.array_meaning.specs.Faults.{Fault}
use Rattle.machine_steps.specs.Instr.{Instr, Remap, Remapping}
use Rattle.machine_steps.specs.Machine.{on, remapped}
use Rattle.machine_steps.specs.Node.{Node, ready, settled}
use Rattle.machine_steps.specs.Rounds.{rounds_on}
use Rattle.code_meaning.specs.Instructions.{remappings}
use Rattle.code_meaning.specs.ProgramText.{Text}
use Rattle.node_code.specs.Texts.{new_mapping}
use Rattle.owner_tables.specs.Views.{OwnersView}
use Rattle.remap_steps.specs.Redistributions.{Redistribution, all_rounds, moved_pieces, round_inbox, round_outbox}
use Rattle.node_program.specs.Fits.{fits_row}
use Rattle.node_program.specs.Programs.{mappings_of}
use Rattle.node_machine.specs.declared.remaps.NewMappings.{NewMappings}

-- the new mappings by the tables of their numbers
abbrev pub remappings_of : NewMappings → List Remapping
remappings_of m = remappings (mappings_of m.tables.now.items) (map new_mapping m.new.now.items)

-- rows of these shapes on so many nodes fit the tables
pub record MappingsFit (count : ℕ) (rows : List Shape) (m : NewMappings) : Type 0 where
  pub nodes : list_all (λ t. t.nodes == count) m.tables.now.items ≡ true
  pub shapes : list_all (fits_row m.tables.now.items rows) (map new_mapping m.new.now.items) ≡ true

-- the instruction gives new mappings, by which the rows lie so
pub record IsAfter (i : Instr Fault) (a : Node Text Fault) (after : OwnersView) : Type 0 where
  pub new : List Remapping
  pub is : i ≡ Remap new (rounds_on a.nodes new)
  pub layouts : after.layouts ≡ remapped new a.layouts
  pub nodes : after.nodes ≡ a.nodes

-- it gives new mappings, and this is the redistribution that they need
pub record IsRemap (i : Instr Fault) (a : Node Text Fault) (r : Redistribution) : Type 0 where
  pub new : List Remapping
  pub is : i ≡ Remap new (rounds_on a.nodes new)
  pub moving : r ≡ record { nodes = a.nodes; old = a.layouts; new = remapped new a.layouts; id = a.id }

module _ (r : Redistribution) (a : Node Text Fault) where
  -- the node in its round
  abbrev pub round_opened : Node Text Fault
  round_opened = settled a (round_outbox r a.round a.pieces) (round_inbox r a.round)

  -- the node after the last round
  abbrev pub remap_ended : Node Text Fault
  remap_ended = ready a.nodes (record a { control = on a.control; substep = 0; layouts = r.new; pieces = moved_pieces r a.pieces a.received })

  -- the one or the other
  abbrev pub round_next : Node Text Fault
  round_next = if nat_lt a.round (length (all_rounds r)) then round_opened else remap_ended
