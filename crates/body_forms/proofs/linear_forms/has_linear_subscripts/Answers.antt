use Rattle.std.proofs.Common.{sym, ap, ◌∙◌}
use Rattle.body_forms.specs.Subscripts.{has_linear_subscripts}
use Rattle.body_forms.proofs.Inside.{element_is}
use Rattle.body_forms.proofs.linear_forms.has_linear_subscripts.Goals as goal

pub returns-in-Some : goal.returns-in-Some
returns-in-Some c =
    c.are_linear.ensures
    ∙ sym (ap (has_linear_subscripts c.args.names.now) (element_is c.args.reference.now.name c.args.reference.now.subs c.in-Some.parts c.deref.result.now
    c.in-Some.is c.deref.ensures.value))
