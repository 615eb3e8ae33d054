use Rattle.std.proofs.Common.{◌≡◌, drop}
use Rattle.node_code.specs.Texts.{forms_of}
use Rattle.part_steps.specs.Agreement.{agree_on_forms}
use Rattle.part_steps.proofs.agreement.+form_agrees.Given as goal

-- those that are left decide
abbrev pub invariant-forms_agree-loop-f : goal.invariant-forms_agree-loop-f
invariant-forms_agree-loop-f l = agree_on_forms l.kept l.slots (forms_of l.f-items) ≡ agree_on_forms l.kept l.slots (forms_of (drop l.f-index l.f-items))
