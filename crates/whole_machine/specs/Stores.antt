-- Of private clauses.
-- No public clause cites this file. Values that are to be stored.
use Rattle.std.specs.Prelude.{List, [], ◌∷◌}
use Rattle.storage.specs.Storage.{Storage, write}
use Rattle.storage.specs.Spots.{spot_of}
use Rattle.whole_machine.specs.declared.stores.Store.{Store}
use Rattle.whole_machine.specs.declared.stores.Stores.{Stores}

-- the rows with these values, the last store last
abbrev pub stored_all : List Store → Storage → Storage
stored_all [] rows = rows
stored_all (s ∷ ss) rows = stored_all ss (write rows (spot_of s.spot) s.value)

abbrev pub stored : Stores → Storage → Storage
stored s = stored_all s.list.items
