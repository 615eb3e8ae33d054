use Rattle.std.proofs.Common.{not}
use Rattle.axis_walks.proofs.Merges.{Merged}
use Rattle.axis_walks.proofs.places.places_beyond.Given as goal

abbrev pub invariant-loop-place : goal.invariant-loop-place
invariant-loop-place l = Merged not l.one l.other l.place-index l.from l.places.items
