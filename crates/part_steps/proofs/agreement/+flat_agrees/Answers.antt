use Rattle.std.proofs.Common.{◌∙◌}
use Rattle.part_steps.proofs.AgreeingOperands.{agree_on_operated}
use Rattle.part_steps.proofs.agreement.+flat_agrees.Goals as goal

pub flat_agrees-returns-in-Operated : goal.flat_agrees-returns-in-Operated
flat_agrees-returns-in-Operated t c =
    c.flats_agree.ensures ∙ agree_on_operated c.args.kept.now c.args.slots.now c.args.f.now c.in-Operated.field-0 c.in-Operated.fs c.in-Operated.is
