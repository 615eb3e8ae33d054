use Rattle.std.proofs.Common.{◌≡◌, ◌++◌, drop, map}
use Rattle.node_code.specs.Texts.{new_mapping}
use Rattle.node_codegen.specs.Moves.{moves_by}
use Rattle.node_codegen.proofs.moves.moves_by.Given as goal

-- those so far, before those of the entries that are left, are all
abbrev pub invariant-loop-one : goal.invariant-loop-one
invariant-loop-one l = map new_mapping l.found.items ++ moves_by (drop l.one-index l.moves) l.line ≡ moves_by l.moves l.line
