use Rattle.std.proofs.Common.{◌≡◌, ◌++◌, drop, map}
use Rattle.storage.specs.Spots.{spot_of}
use Rattle.message_text.specs.MessageText.{spots_text}
use Rattle.message_lines.specs.Settings.{setting_of}
use Rattle.message_lines.proofs.message_line.add_spots.Given as goal

-- what is added, before what is left
abbrev pub invariant-loop-spot : goal.invariant-loop-spot
invariant-loop-spot l =
    l.text.items ++ spots_text (setting_of l.rows) l.rows.owners.layouts (map spot_of (drop l.spot-index l.spots))
    ≡ l.fn.text.items ++ spots_text (setting_of l.rows) l.rows.owners.layouts (map spot_of l.spots)
