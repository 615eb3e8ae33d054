use Rattle.std.proofs.Common.{◌≡◌, drop}
use Rattle.node_code.specs.Texts.{forms_of}
use Rattle.course_forms.specs.Views.{names_of}
use Rattle.tuple_values.specs.Naming.{all_names_here, before}
use Rattle.tuple_values.proofs.names.+form_references.Given as goal

-- what is named so far, before what the operands that are left name
abbrev pub invariant-all_form_references-loop-f : goal.invariant-all_form_references-loop-f
invariant-all_form_references-loop-f l =
    before (names_of l.initial.rs.items) (all_names_here l.n (forms_of l.f-items)) ≡ before (names_of l.rs.items) (all_names_here l.n (forms_of (drop l.f-index l.f-items)))
