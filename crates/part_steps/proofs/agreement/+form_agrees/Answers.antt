use Rattle.std.proofs.Common.{◌∙◌}
use Rattle.part_steps.proofs.AgreeingOperands.{agree_on_operation}
use Rattle.part_steps.proofs.agreement.+form_agrees.Goals as goal

pub form_agrees-returns-in-Operation : goal.form_agrees-returns-in-Operation
form_agrees-returns-in-Operation t c =
    c.forms_agree.ensures ∙ agree_on_operation c.args.kept.now c.args.slots.now c.args.f.now c.in-Operation.field-0 c.in-Operation.fs c.in-Operation.is
