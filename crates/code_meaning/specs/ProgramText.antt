-- Of the claim.
-- The text of a program on nodes: instructions, each with what it knows of arrays and nodes, so that what a text means depends on
-- nothing else.
use Rattle.std.specs.Prelude.{ℕ, List, map}
use Rattle.mappings.specs.declared.mapping.Mapping.{Mapping}
use Rattle.node_code.specs.Dim.{Dim}
use Rattle.node_code.specs.Faults.{Fault}
use Rattle.aligned_copies.specs.Instr.{Instr}
use Rattle.aligned_copies.specs.Rounds.{rounds_on}
use Rattle.aligned_copies.specs.Beside.{aligned_layout}
use Rattle.code_meaning.specs.Instructions.{ArrayTable, meaning_of}
use Rattle.node_code.specs.Instructions.{Instruction}

-- an instruction with the dimensions of the declared arrays, by the places of their names, the program's mappings by their numbers, and
-- the number of nodes
pub record Text : Type 0 where
  pub shapes : List (List Dim)
  pub maps : List Mapping
  pub nodes : ℕ
  pub instruction : Instruction

-- arrays of these shapes and these mappings on so many nodes: copies lie beside what is assigned, where that is good, and else in blocks over
-- all of them, and new mappings come in the rounds of their colours
abbrev pub table_on : ℕ → List Mapping → List (List Dim) → ArrayTable
table_on nodes maps shapes = record { shapes = shapes; maps = maps; copies = aligned_layout nodes; rounds = rounds_on nodes }

abbrev pub text_meaning : Text → Instr Fault
text_meaning t = meaning_of (table_on t.nodes t.maps t.shapes) t.instruction

abbrev pub text : ℕ → List Mapping → List (List Dim) → Instruction → Text
text nodes maps shapes i = record { shapes = shapes; maps = maps; nodes = nodes; instruction = i }

abbrev pub texts : ℕ → List Mapping → List (List Dim) → List Instruction → List Text
texts nodes maps shapes is = map (text nodes maps shapes) is
