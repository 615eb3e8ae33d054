-- The lines over rows are those of the definitions.
use Rattle.std.proofs.Common.{◌≡◌, ℕ, List, [], map, sym, ◌∙◌, ap}
use Rattle.name_table.specs.declared.names.Entry.{Entry}
use Rattle.machine_steps.specs.Instr.{Remapping}
use Rattle.machine_steps.specs.Layout.{Layout}
use Rattle.machine_steps.specs.Machine.{remapped}
use Rattle.machine_steps.specs.Message.{Part}
use Rattle.owner_tables.specs.Views.{OwnersView}
use Rattle.message_text.specs.Parts.{Setting}
use Rattle.message_text.specs.MessageText.{part_lines, redistribution_lines}
use Rattle.tuple_values.specs.Statements.{Statement}
use Rattle.part_steps.specs.Parts.{part_of}
use Rattle.part_steps.specs.declared.who.Who.{Who}
use Rattle.message_lines.specs.declared.rows.Rows.{Rows}
use Rattle.message_lines.specs.RowParts.{part_over}
use Rattle.message_lines.specs.Settings.{setting_of}

module _ (rows : Rows) (s : Setting) (layouts : List Layout) (names : List Entry) (are : s.names ≡ map (λ e. e.name) names)
    (named : rows.names.now ≡ names) (owned : ◌≡◌ {A = OwnersView} rows.owners (record { layouts = layouts; nodes = s.nodes }))
    (kept : rows.copies.now ≡ s.copies) (whose : rows.copied.now ≡ s.copied) where
  -- the names, as texts
  told : map (λ e. e.name) rows.names.now ≡ s.names
  told = ap (map (λ e. e.name)) named ∙ sym are

  -- those of a part
  pub rows-lines : (who : Who) (w : Statement) (line : ℕ) (part : Part) → part_of (record { who = who; nodes = s.nodes; layouts = layouts; statement = w }) ≡ part
      → part_lines (setting_of rows) rows.owners.layouts line (part_of (part_over rows who w)) ≡ part_lines s layouts line part
  rows-lines who w line part is =
      (λ i. part_lines (record { nodes = (owned i).nodes; names = told i; shapes = []; moves = λ line. []; copies = kept i; copied = whose i }) (owned i).layouts line
      (part_of (record { who = who; nodes = (owned i).nodes; layouts = (owned i).layouts; statement = w })))
      ∙ ap (part_lines s layouts line) is

  -- those of a redistribution
  pub rows-redistribution : (line : ℕ) (new : List Remapping) (after : List Layout) → after ≡ remapped new rows.owners.layouts
      → redistribution_lines (setting_of rows) line rows.owners.layouts after ≡ redistribution_lines s line layouts (remapped new layouts)
  rows-redistribution line new after is =
      ap (redistribution_lines (setting_of rows) line rows.owners.layouts) is
      ∙ (λ i. redistribution_lines (record { nodes = (owned i).nodes; names = told i; shapes = []; moves = λ line. []; copies = kept i; copied = whose i }) line (owned i).layouts (remapped new (owned i).layouts))
