use Rattle.std.proofs.Common.{◌≡◌, Some, true, IfOk, subst}
use Rattle.course_forms.specs.Views.{names_of}
use Rattle.tuple_values.specs.Naming.{before, names_here}
use Rattle.tuple_values.proofs.Operands.{operation_is}
use Rattle.tuple_values.proofs.names.+form_references.Goals as goal

pub form_references-returns-in-Operation : goal.form_references-returns-in-Operation
form_references-returns-in-Operation t c =
    subst
    (λ f. IfOk c.all_form_references.result (λ known. known ≡ true → before (names_of c.args.rs.now.items) (names_here c.args.n.now f)
    ≡ Some (names_of c.all_form_references.new.rs.items)))
    (operation_is c.args.f.now c.in-Operation.field-0 c.in-Operation.fs c.in-Operation.is) c.all_form_references.ensures
