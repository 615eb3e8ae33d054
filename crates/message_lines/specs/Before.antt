-- Of private clauses.
-- No public clause cites this file. What is known before an instruction.
use Rattle.std.specs.Prelude.{List, [], Option, length, map, take}
use Rattle.array_meaning.specs.Sections.{extents}
use Rattle.machine_steps.specs.Layout.{Layout}
use Rattle.message_text.specs.InstructionLines.{copy_rows, rows_after}
use Rattle.message_text.specs.Parts.{Setting, with_copies, with_copy}
use Rattle.code_meaning.specs.Anchors.{anchor_in}
use Rattle.code_meaning.specs.Beside.{Anchor}
use Rattle.node_code.specs.Anchors.{FlatAnchor}
use Rattle.node_code.specs.NestStatements.{NestStatement}
use Rattle.code_meaning.specs.NestStatements.{copies_extents}
use Rattle.node_code.specs.Forms.{Sub}
use Rattle.code_meaning.specs.Forms.{selections_in}
use Rattle.message_lines.specs.declared.before.Before.{Before}

-- the nodes, the declared names, and the dimensions of the arrays among them. No line of a message depends on the rest
abbrev pub setting_before : Before → Setting
setting_before b = record { nodes = b.owners.now.nodes; names = map (λ e. e.name) b.names.now; shapes = b.program.now.shapes.items; moves = λ line. []; copies = []; copied = [] }

-- how the declared names lie
abbrev pub names_layouts : Before → List Layout
names_layouts b = take (length b.names.now) b.owners.now.layouts

-- the same, and after them a copy with an element for each tuple of the space of this section
abbrev pub copy_layouts : Before → Option Anchor → List Sub → List Layout
copy_layouts b anchor over = with_copy (setting_before b) (names_layouts b) anchor (extents (selections_in b.slots.now over))

-- beside this
abbrev pub layouts_beside : Before → Option FlatAnchor → List Sub → List Layout
layouts_beside b beside over = copy_layouts b (anchor_in b.slots.now over beside) over

-- the same, and after them the copies that a statement of a nest names
abbrev pub nest_layouts : Before → NestStatement → List Layout
nest_layouts b p = with_copies (setting_before b) (names_layouts b) (rows_after (length (names_layouts b)) (copy_rows p)) (anchor_in b.slots.now p.over p.beside) (copies_extents p.over b.slots.now)
