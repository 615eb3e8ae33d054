use Rattle.std.proofs.Common.{◌≡◌, ◌++◌, drop, map}
use Rattle.node_code.specs.Texts.{when}
use Rattle.courses.specs.References.{when_names}
use Rattle.course_forms.specs.Views.{names_of}
use Rattle.tuple_values.proofs.names.when_references.Given as goal

-- the copies so far, before those of the masks that are left
abbrev pub invariant-loop-w : goal.invariant-loop-w
invariant-loop-w l =
    names_of l.initial.rs.items ++ when_names l.n.extents.now (map when l.whens) ≡ names_of l.rs.items ++ when_names l.n.extents.now (map when (drop l.w-index l.whens))
