use Rattle.std.proofs.Common.{◌≡◌}
use Rattle.course_forms.specs.Views.{names_of}
use Rattle.tuple_values.specs.Views.{statement}
use Rattle.tuple_values.proofs.LineLaws.{left_line, left_nowhere}
use Rattle.tuple_values.proofs.statement.ParallelStatement.left_line.Goals as goal

pub returns-in-Some-2 : goal.returns-in-Some-2
returns-in-Some-2 c =
    left_line (statement c.args.self.now) c.args.s c.requires.within c.args.references.now.extents.items c.args.references.now.left c.in-Some.field-0
    (names_of c.args.references.now.reads.items) c.in-Some-2.line c.in-Some.is c.requires.references c.requires.row
    (rw c.in-Some-2.is at c.in_ok-left_at_ends-in-Some.ensures)

pub returns-in-None : goal.returns-in-None
returns-in-None c =
    left_nowhere (statement c.args.self.now) c.args.s c.requires.within c.args.references.now.extents.items c.args.references.now.left
    (names_of c.args.references.now.reads.items) c.in-None.is c.requires.references
