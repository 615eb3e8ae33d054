use Rattle.std.proofs.Common.{◌≡◌, ◌≤◌, ◌++◌, drop}
use Rattle.array_meaning.specs.NestEntry.{subscripts_of_place}
use Rattle.interference.proofs.entry.subscripts_of_place.Given as goal

-- the subscripts so far, before those of the dimensions that are left
abbrev pub invariant-loop-d : goal.invariant-loop-d
invariant-loop-d l = (subscripts_of_place l.dims l.place ≡ l.subscripts.items ++ subscripts_of_place (drop l.d-index l.dims) l.left) × (l.left ≤ l.place)
