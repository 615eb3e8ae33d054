use Rattle.std.proofs.Common.{◌≡◌, take}
use Rattle.courses.specs.References.{copy_dims}
use Rattle.course_forms.proofs.reference.copy_dims.Given as goal

-- the dimensions so far
abbrev pub invariant-loop-n : goal.invariant-loop-n
invariant-loop-n l = l.dims.items ≡ copy_dims (take l.n-index l.ns)
