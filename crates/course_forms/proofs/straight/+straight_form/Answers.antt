use Rattle.std.proofs.Common.{◌≡◌, IfSome, Some, subst}
use Rattle.course_forms.specs.Views.{straight_of}
use Rattle.course_forms.proofs.Operands.{operands_are}
use Rattle.course_forms.proofs.straight.+straight_form.Goals as goal

pub straight_form-returns-in-Operated : goal.straight_form-returns-in-Operated
straight_form-returns-in-Operated t c =
    subst (λ r. IfSome c.operation.result (λ x. r ≡ Some (straight_of x)))
    (operands_are c.args.slots.now c.args.f.now c.in-Operated.o c.in-Operated.fs c.in-Operated.is) c.operation.ensures
