-- Of a promise.
-- What contracts see of an element that code holds.
use Rattle.storage.specs.Storage.{Spot}
use Rattle.storage.specs.declared.spot.Spot as code

abbrev pub spot_of : code.Spot → Spot
spot_of spot = record { row = spot.row; at = spot.at }
