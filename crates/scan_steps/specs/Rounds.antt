-- Of a promise.
-- What a node takes in a round of a scan.
use Rattle.std.specs.Prelude.{ℕ, ◌-◌, ◌^◌, ℤ, List, [], Option, None, nat_lt, slice_index_or, if◌then◌else◌}
use Rattle.machine_steps.specs.Node.{values_option}

-- what came in it, by what it received from each node
abbrev pub came_in : (round id : ℕ) → (received : List (List ℤ)) → Option ℤ
came_in round id received = if nat_lt id (2 ^ round) then None else values_option (slice_index_or received (id - 2 ^ round) [])
