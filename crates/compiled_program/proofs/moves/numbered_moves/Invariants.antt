use Rattle.std.proofs.Common.{◌≡◌, ◌++◌, ℕ, drop, length}
use Rattle.node_codegen.specs.Moves.{moves_by}
use Rattle.nodes_lowered.specs.NewMappings.{numbered_at}
use Rattle.compiled_program.specs.NewTables.{new_tables}
use Rattle.compiled_program.proofs.moves.numbered_moves.Given as goal

-- those so far, before those that are left, are all
abbrev pub invariant-loop-one : goal.invariant-loop-one
invariant-loop-one l = record {
  tables : l.tables.items ++ new_tables l.nodes l.arrays (drop l.one-index l.all) ≡ new_tables l.nodes l.arrays l.all;
  moves : (line : ℕ) → moves_by l.moves.items line ++ numbered_at l.places (length l.tables.items) (drop l.one-index l.all) line ≡ numbered_at l.places 0 l.all line;
}
