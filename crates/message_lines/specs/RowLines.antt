-- Of private clauses.
-- No public clause cites this file. Lines of messages of rows, each after the words that it begins with.
use Rattle.std.specs.Prelude.{ℕ, List}
use Rattle.std.specs.List.{flat_map, range_with_len}
use Rattle.letters.specs.declared.pair.Pair.{Pair}
use Rattle.machine_steps.specs.Layout.{Layout}
use Rattle.machine_steps.specs.Message.{Part, message, remap_message}
use Rattle.message_text.specs.MessageText.{message_line}
use Rattle.message_lines.specs.declared.rows.Rows.{Rows}
use Rattle.message_lines.specs.Settings.{setting_of}

module _ (rows : Rows) where
  -- those of what one node sends in a part, by target
  abbrev pub source_lines : Part → (head : List ℕ) → (from : ℕ) → List ℕ
  source_lines part head from =
      flat_map (λ to. message_line head from to (setting_of rows) rows.owners.layouts (message rows.owners.nodes rows.owners.layouts part from to))
      (range_with_len 0 rows.owners.nodes)

  -- that of what a pair of nodes exchanges in a redistribution after which the rows lie so
  abbrev pub pair_line : (after : List Layout) → (head : List ℕ) → Pair → List ℕ
  pair_line after head pair =
      message_line head pair.from.0 pair.to.0 (setting_of rows) rows.owners.layouts
      (remap_message rows.owners.nodes rows.owners.layouts after pair.from.0 pair.to.0)
