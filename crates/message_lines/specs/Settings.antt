-- Of private clauses.
-- No public clause cites this file. What the text of messages is told by.
use Rattle.std.specs.Prelude.{[], map}
use Rattle.message_text.specs.Parts.{Setting}
use Rattle.message_lines.specs.declared.rows.Rows.{Rows}

-- the nodes and the declared names of these rows, and the scalars whose copies rows have. No line of a message depends on the rest
abbrev pub setting_of : Rows → Setting
setting_of rows = record { nodes = rows.owners.nodes; names = map (λ e. e.name) rows.names.now; shapes = []; moves = λ line. []; copies = rows.copies.now; copied = rows.copied.now }
