use Rattle.std.proofs.Common.{◌≡◌, ◌++◌, drop}
use Rattle.nodes_lowered.specs.NewMappings.{array_places}
use Rattle.compiled_program.proofs.moves.array_places.Given as goal

-- the places so far, before those of the names that are left, are all
abbrev pub invariant-loop-place : goal.invariant-loop-place
invariant-loop-place l = l.places.items ++ array_places l.place (drop l.place l.names) ≡ array_places 0 l.names
