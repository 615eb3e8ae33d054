use Rattle.std.proofs.Common.{◌≡◌, ◌++◌, drop, map}
use Rattle.array_meaning.specs.Resolution.{place_of}
use Rattle.program_plan.proofs.nests.places.Given as goal

-- the places so far, with those of the rest, are all
abbrev pub invariant-loop-name : goal.invariant-loop-name
invariant-loop-name l = l.places.items ++ map (place_of l.names) (drop l.name-index l.listed) ≡ map (place_of l.names) l.listed
