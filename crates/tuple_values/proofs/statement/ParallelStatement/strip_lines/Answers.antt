use Rattle.std.proofs.Common.{subst}
use Rattle.std.specs.Prelude.{option_map}
use Rattle.course_forms.specs.Views.{named_of, names_of}
use Rattle.tuple_values.specs.Strips.{IsInRow}
use Rattle.tuple_values.specs.Views.{statement}
use Rattle.tuple_values.proofs.LineLaws.{read_lines}
use Rattle.tuple_values.proofs.statement.ParallelStatement.strip_lines.Goals as goal

pub returns-in-Some-3-clause-reads : goal.returns-in-Some-3-clause-reads
returns-in-Some-3-clause-reads c =
    read_lines (statement c.args.self.now) c.args.s c.requires.within c.args.references.now.extents.items (option_map named_of c.args.references.now.left)
    (names_of c.args.references.now.reads.items) c.in-Some-3.reads.items c.requires.references c.requires.order (subst (λ ns. IsInRow ns c.args.s) c.deref.ensures.value c.in-Some.ensures.row)
    (rw c.in-Some-3.is at c.in_ok-reads_at_ends.ensures)
