use Rattle.std.proofs.Common.{All, length, take}
use Rattle.machine_steps.specs.Layout.{in_bounds}
use Rattle.machine_steps.specs.Message.{computes_left}
use Rattle.courses.specs.References.{IsAlongAxes, named_spot}
use Rattle.course_forms.specs.Views.{named_of, names_of}
use Rattle.visited_tuples.specs.Visited.{Suffice}
use Rattle.part_visits.proofs.visitor.Visitor.apart.Given as goal

-- they suffice for the references so far
abbrev pub invariant-loop-read : goal.invariant-loop-read
invariant-loop-read l = All (IsAlongAxes (length l.self.extents.now)) (names_of l.few.items)
    × Suffice (λ node t. computes_left l.self.owners.now.layouts node (in_bounds l.self.owners.now.layouts (named_spot l.self.extents.now t (named_of l.l))))
    l.self.owners.now.layouts l.self.extents.now (names_of (take l.read-index l.reads)) (names_of l.few.items)
