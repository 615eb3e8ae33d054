use Rattle.std.proofs.Common.{All, take}
use Rattle.course_forms.specs.Views.{names_of}
use Rattle.visited_tuples.specs.Owned.{OwnsRow}
use Rattle.part_visits.proofs.visitor.Visitor.owns_rows.Given as goal

abbrev pub invariant-loop-reference : goal.invariant-loop-reference
invariant-loop-reference l = All (OwnsRow l.self.extents.now l.self.owners.now.layouts l.self.id) (names_of (take l.reference-index l.references))
