use Rattle.std.proofs.Common.{◌≡◌, IfSome, subst}
use Rattle.node_code.specs.Texts.{flat}
use Rattle.courses.specs.TurnedForms.{operation}
use Rattle.course_forms.proofs.Operands.{operated_is}
use Rattle.course_forms.proofs.turned.operation_of.Goals as goal

pub returns-in-Operated : goal.returns-in-Operated
returns-in-Operated c =
    subst (λ g. IfSome c.both_operands.result (λ o. g ≡ operation o.op (flat o.first.now) (flat o.second.now)))
    (operated_is c.args.f.now c.in-Operated.o c.in-Operated.fs c.in-Operated.is) c.both_operands.ensures
