use Rattle.std.proofs.Common.{All, take}
use Rattle.course_forms.specs.Views.{names_of}
use Rattle.visited_tuples.specs.Owned.{Lies}
use Rattle.part_visits.proofs.visitor.Visitor.all_lie.Given as goal

abbrev pub invariant-loop-reference : goal.invariant-loop-reference
invariant-loop-reference l = All (Lies l.self.extents.now l.self.owners.now.layouts) (names_of (take l.reference-index l.references))
