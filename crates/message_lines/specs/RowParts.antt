-- Of private clauses.
-- No public clause cites this file. Parts over rows.
use Rattle.tuple_values.specs.Statements.{Statement}
use Rattle.part_steps.specs.Parts.{PartView}
use Rattle.part_steps.specs.declared.who.Who.{Who}
use Rattle.message_lines.specs.declared.rows.Rows.{Rows}

-- a statement over these rows, with who computes its tuples
abbrev pub part_over : Rows → Who → Statement → PartView
part_over rows who w = record { who = who; nodes = rows.owners.nodes; layouts = rows.owners.layouts; statement = w }
