-- Of a promise.
-- Values with their positions, as a fold takes them.
use Rattle.std.specs.Prelude.{◌≡◌, Option, Some, None, option_map}
use Rattle.reduction_tree.specs.declared.placed.Placed.{Placed}
use Rattle.machine_steps.specs.Node.{Positioned}

abbrev pub placed : Positioned → Placed
placed p = record { position = p.at; value = p.value }

abbrev pub places : Option Positioned → Option Placed
places = option_map placed

-- one position, one value: an element has one value, on whichever nodes it lies. Two at different positions are so, and so are two of which
-- one is missing
abbrev pub HaveOwnPositions : Option Positioned → Option Positioned → Type 0
HaveOwnPositions None b = Unit {0}
HaveOwnPositions (Some x) None = Unit {0}
HaveOwnPositions (Some x) (Some y) = x.at ≡ y.at → x.value ≡ y.value
