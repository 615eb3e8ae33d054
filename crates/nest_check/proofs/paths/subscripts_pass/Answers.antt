use Rattle.std.proofs.Common.{sym, ap, ◌∙◌}
use Rattle.std.specs.List.{list_all}
use Rattle.nest_check.specs.NestRules.{may_be_read, subexpressions_after}
use Rattle.body_forms.proofs.Inside.{subscripts_are}
use Rattle.nest_check.proofs.paths.subscripts_pass.Goals as goal

pub returns-in-Some : goal.returns-in-Some
returns-in-Some c =
    c.all_pass_subscripts.ensures
    ∙ sym (ap (λ ps. list_all (may_be_read c.args.names.now c.args.assigned.now) (subexpressions_after ps))
    (subscripts_are c.args.left.now.subs c.in-Some.parts c.deref.result.now c.in-Some.is c.deref.ensures.value))
