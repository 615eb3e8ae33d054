-- Of a promise.
-- What contracts see of elements that are read.
use Rattle.std.specs.Prelude.{List, map, Option, option_map}
use Rattle.storage.specs.Storage.{Spot}
use Rattle.storage.specs.declared.spot.Spot as code
use Rattle.storage.specs.Spots.{spot_of}

abbrev pub read_of : Option code.Spot → Option Spot
read_of = option_map spot_of

abbrev pub reads_of : List (Option code.Spot) → List (Option Spot)
reads_of = map read_of
