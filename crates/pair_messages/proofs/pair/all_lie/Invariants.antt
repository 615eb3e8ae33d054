use Rattle.std.proofs.Common.{All, take}
use Rattle.course_forms.specs.Views.{names_of}
use Rattle.visited_tuples.specs.Owned.{Lies}
use Rattle.pair_messages.proofs.pair.all_lie.Given as goal

abbrev pub invariant-loop-reference : goal.invariant-loop-reference
invariant-loop-reference l = All (Lies l.extents l.owners.layouts) (names_of (take l.reference-index l.references))
