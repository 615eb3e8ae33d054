use Rattle.std.proofs.Common.{◌≡◌, ◌++◌, drop, map}
use Rattle.node_code.specs.Texts.{new_mapping}
use Rattle.nodes_lowered.specs.NewMappings.{numbered}
use Rattle.compiled_program.proofs.moves.numbered.Given as goal

-- those so far, before those that are left, are all
abbrev pub invariant-loop-one : goal.invariant-loop-one
invariant-loop-one l = map new_mapping l.made.items ++ numbered l.places l.number (drop l.one-index l.news) ≡ numbered l.places l.first l.news
