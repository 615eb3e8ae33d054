use Rattle.std.proofs.Common.{◌≡◌, ◌++◌, drop}
use Rattle.courses.specs.References.{copy_names}
use Rattle.course_forms.specs.Views.{names_of}
use Rattle.tuple_values.proofs.names.copy_references.Given as goal

-- the copies so far, before those that are left
abbrev pub invariant-loop-row : goal.invariant-loop-row
invariant-loop-row l =
    names_of l.initial.rs.items ++ copy_names l.n.extents.now l.rows ≡ names_of l.rs.items ++ copy_names l.n.extents.now (drop l.row-index l.rows)
