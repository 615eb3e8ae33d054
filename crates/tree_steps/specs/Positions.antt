-- Of a promise.
-- Values with their positions.
use Rattle.std.specs.Prelude.{Option, option_map}
use Rattle.machine_steps.specs.Node.{Positioned}
use Rattle.tree_steps.specs.declared.positioned_values.Positioned.{Positioned as HeldPositioned}

abbrev pub position : HeldPositioned → Positioned
position p = record { at = p.at; value = p.value }

abbrev pub positions : Option HeldPositioned → Option Positioned
positions = option_map position
