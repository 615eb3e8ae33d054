use Rattle.std.proofs.Common.{◌≡◌, map}
use Rattle.std.specs.List.{range_with_len}
use Rattle.owned_places.specs.Candidates.{candidate}
use Rattle.owned_places.proofs.passing.places_of.Given as goal

-- those so far
abbrev pub invariant-loop-n : goal.invariant-loop-n
invariant-loop-n l = l.places.items ≡ map (candidate l.candidates) (range_with_len 0 l.n)
