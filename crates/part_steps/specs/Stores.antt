-- Of a promise.
-- Values that are to be stored in a node's pieces.
use Rattle.std.specs.Prelude.{ℕ, ◌+◌, List, [], ◌∷◌, ℤ}
use Rattle.storage.specs.Storage.{Storage, write}
use Rattle.storage.specs.Spots.{spot_of}
use Rattle.part_steps.specs.declared.stores.Store.{Store}
use Rattle.part_steps.specs.declared.stores.Stored.{Stored}
use Rattle.part_steps.specs.declared.stores.Stored.TheVariants as held
use Rattle.part_steps.specs.declared.stores.Stores.{Stores}

-- the pieces with these values from a place of a row on, each so far after the one before
abbrev pub line_stored : (row at step : ℕ) → List ℤ → Storage → Storage
line_stored row at step [] pieces = pieces
line_stored row at step (v ∷ vs) pieces = line_stored row (at + step) step vs (write pieces (record { row = row; at = at }) v)

-- the pieces with values that have a place each, the last store last
abbrev pub each_stored : List Store → Storage → Storage
each_stored [] pieces = pieces
each_stored (s ∷ ss) pieces = each_stored ss (write pieces (spot_of s.spot) s.value)

abbrev pub put : Stored → Storage → Storage
put (held.Each stores) pieces = each_stored stores.items pieces
put (held.Line spot step values) pieces = line_stored spot.row spot.at step values.items pieces

-- the pieces with these values, the last store last
abbrev pub stored_all : List Stored → Storage → Storage
stored_all [] pieces = pieces
stored_all (s ∷ ss) pieces = stored_all ss (put s pieces)

-- those in the list are stored first
abbrev pub stored : Stores → Storage → Storage
stored s pieces = each_stored s.singles.items (stored_all s.list.items pieces)
