use Rattle.std.proofs.Common.{◌≡◌, ◌+◌, ◌*◌, map, take}
use Rattle.std.specs.List.{flat_map}
use Rattle.owner_tables.proofs.positions.with_places.Given as goal

-- the numbers so far, each with all places
abbrev pub invariant-loop-number : goal.invariant-loop-number
invariant-loop-number l = l.all.items ≡ flat_map (λ n. map (λ place. n * l.extent + place) l.places) (take l.number-index l.numbers)
