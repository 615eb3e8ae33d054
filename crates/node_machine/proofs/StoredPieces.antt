-- Stores make no row longer and no row more.
use Rattle.std.proofs.Common.{◌≡◌, ℕ, ◌+◌, List, [], ◌∷◌, ℤ, length, refl, ◌∙◌}
use Rattle.std.proofs.lemmas.List.{length-set}
use Rattle.storage.specs.Spots.{spot_of}
use Rattle.storage.specs.Storage.{Storage, write}
use Rattle.part_steps.specs.Stores.{each_stored, line_stored, put, stored, stored_all}
use Rattle.part_steps.specs.declared.stores.Store.{Store}
use Rattle.part_steps.specs.declared.stores.Stored.{Stored}
use Rattle.part_steps.specs.declared.stores.Stored.TheVariants as held
use Rattle.part_steps.specs.declared.stores.Stores.{Stores}

line-length : (row at step : ℕ) (vs : List ℤ) (pieces : Storage) → length (line_stored row at step vs pieces) ≡ length pieces
line-length row at step [] pieces = refl
line-length row at step (v ∷ vs) pieces = line-length row (at + step) step vs (write pieces (record { row = row; at = at }) v) ∙ length-set pieces _ _

each-length : (ss : List Store) (pieces : Storage) → length (each_stored ss pieces) ≡ length pieces
each-length [] pieces = refl
each-length (s ∷ ss) pieces = each-length ss (write pieces (spot_of s.spot) s.value) ∙ length-set pieces _ _

put-length : (s : Stored) (pieces : Storage) → length (put s pieces) ≡ length pieces
put-length (held.Each stores) pieces = each-length stores.items pieces
put-length (held.Line spot step values) pieces = line-length spot.row spot.at step values.items pieces

list-length : (ss : List Stored) (pieces : Storage) → length (stored_all ss pieces) ≡ length pieces
list-length [] pieces = refl
list-length (s ∷ ss) pieces = list-length ss (put s pieces) ∙ put-length s pieces

pub stored-length : (s : Stores) (pieces : Storage) → length (stored s pieces) ≡ length pieces
stored-length s pieces = each-length s.singles.items (stored_all s.list.items pieces) ∙ list-length s.list.items pieces
