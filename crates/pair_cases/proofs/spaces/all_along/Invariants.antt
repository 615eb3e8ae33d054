use Rattle.std.proofs.Common.{All, take}
use Rattle.courses.specs.References.{IsAlongAxes}
use Rattle.course_forms.specs.Views.{names_of}
use Rattle.pair_cases.proofs.spaces.all_along.Given as goal

abbrev pub invariant-loop-reference : goal.invariant-loop-reference
invariant-loop-reference l = All (IsAlongAxes l.axes) (names_of (take l.reference-index l.references))
