use Rattle.std.proofs.Common.{◌≡◌, ◌++◌, drop, map}
use Rattle.array_maps.specs.Lines.{moves_at}
use Rattle.array_maps.proofs.maps.Redistributions.moves_at.Given as goal

abbrev pub invariant-loop-one : goal.invariant-loop-one
invariant-loop-one l = map (λ new. new.now) l.found.items ++ moves_at (drop l.one-index l.self) l.line ≡ moves_at l.self l.line
