use Rattle.std.proofs.Common.{◌≡◌, map}
use Rattle.std.specs.List.{range_with_len}
use Rattle.local_address.specs.Runs.{procs_on}
use Rattle.owner_tables.specs.Columns.{count_on, place_on}
use Rattle.owner_tables.proofs.columns.deal.Given as goal

-- the places so far, and how many have each coordinate
abbrev pub invariant-loop-place : goal.invariant-loop-place
invariant-loop-place l =
    (l.places ≡ map (place_on l.axis l.weight l.lower) (range_with_len 0 l.place))
    × (l.counts.items ≡ map (count_on l.axis l.lower l.place) (range_with_len 0 (procs_on l.axis)))
