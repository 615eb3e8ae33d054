use Rattle.std.proofs.Common.{◌≡◌, ◌++◌}
use Rattle.std.specs.List.{flat_map, range_with_len}
use Rattle.machine_steps.specs.Message.{message}
use Rattle.message_text.specs.MessageText.{message_line}
use Rattle.part_steps.specs.Parts.{part_of}
use Rattle.part_steps.specs.Views.{part_view}
use Rattle.message_lines.specs.Settings.{setting_of}
use Rattle.message_lines.proofs.part_lines.add_sent.Given as goal

-- the lines of the targets so far
abbrev pub invariant-loop-to : goal.invariant-loop-to
invariant-loop-to l =
    let owners = l.rows.owners in
    l.text.items ≡ l.fn.text.items ++ flat_map (λ to. message_line l.head l.from to (setting_of l.rows) owners.layouts
    (message owners.nodes owners.layouts (part_of (part_view l.part)) l.from to)) (range_with_len 0 l.to)
