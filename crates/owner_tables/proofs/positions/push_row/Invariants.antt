use Rattle.std.proofs.Common.{◌≡◌, ◌+◌, ◌++◌, map, take}
use Rattle.owner_tables.proofs.positions.push_row.Given as goal

-- the number with the places so far
abbrev pub invariant-loop-place : goal.invariant-loop-place
invariant-loop-place l = l.all.items ≡ l.initial.all.items ++ map (λ place. l.fn.number + place) (take l.place-index l.places)
