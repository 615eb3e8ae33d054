-- Of private clauses.
-- No public clause cites this file. Who sends the value of an element that all nodes fetch.
use Rattle.std.specs.Prelude.{ℕ, ◌==◌, ◌&&◌, Bool, not, List}
use Rattle.storage.specs.Storage.{Spot}
use Rattle.machine_steps.specs.Layout.{Layout, least_owner_of, owns_spot}

-- the least owner sends it to each node that doesn't own the element
abbrev pub fetch_sends : ℕ → List Layout → Spot → ℕ → ℕ → Bool
fetch_sends count layouts spot p q = not (owns_spot layouts q spot) && (least_owner_of count layouts spot == p)
