use Rattle.std.proofs.Common.{◌≡◌, ◌++◌, drop, map}
use Rattle.compiled_program.specs.NewTables.{new_table}
use Rattle.compiled_program.proofs.moves.push_tables.Given as goal

-- those so far, before those that are left, are all
abbrev pub invariant-loop-one : goal.invariant-loop-one
invariant-loop-one l = l.tables.items ++ map (new_table l.nodes l.arrays) (drop l.one-index l.news) ≡ l.fn.tables.items ++ map (new_table l.nodes l.arrays) l.news
