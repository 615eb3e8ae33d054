use Rattle.axis_walks.proofs.Merges.{Merged}
use Rattle.axis_walks.proofs.places.common_places.Given as goal

abbrev pub invariant-loop-place : goal.invariant-loop-place
invariant-loop-place l = Merged (λ b. b) l.one l.other l.place-index l.from l.places.items
