use Rattle.std.proofs.Common.{take}
use Rattle.courses.specs.Subscripts.{axis_pass}
use Rattle.course_forms.specs.Views.{courses_of}
use Rattle.owned_places.specs.Candidates.{AreCandidates}
use Rattle.owned_places.specs.Dims.{held_dim}
use Rattle.owned_places.proofs.candidates.candidates_on.Given as goal

-- what was found serves the courses so far
abbrev pub invariant-loop-k : goal.invariant-loop-k
invariant-loop-k l = AreCandidates (axis_pass (held_dim l.dims l.mapping l.node) 0 (courses_of (take l.k l.courses)) l.axis) l.extent l.found
