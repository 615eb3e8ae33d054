use Rattle.std.proofs.Common.{◌≡◌, IfOk, Some, ap, ◌∙◌, subst}
use Rattle.std.specs.Prelude.{option_map}
use Rattle.program_code.specs.ExpressionCode.{first_subs, form_of}
use Rattle.node_code.specs.Texts.{subs}
use Rattle.resolved_program.proofs.Forms.{apply_is, section_is}
use Rattle.expression_code.proofs.evaluations.+space.Goals as goal

pub first_subs-returns-in_ok-subs_of-in-Section : goal.first_subs-returns-in_ok-subs_of-in-Section
first_subs-returns-in_ok-subs_of-in-Section t c =
    ap Some c.in_ok-subs_of-in-Section.ensures
    ∙ ap (λ w. first_subs (form_of c.args.b w)) (section_is c.args.t.now _ c.in-Section.subscripts c.deref.result.now c.in-Section.is c.deref.ensures.value)

pub first_subs-returns-in-Apply : goal.first_subs-returns-in-Apply
first_subs-returns-in-Apply t c =
    subst (λ w. IfOk c.first_subs_of.result (λ r. option_map (λ ds. subs ds.items) r ≡ first_subs (form_of c.args.b w)))
    (apply_is c.args.t.now _ c.in-Apply.operands c.deref-in-Apply.result.now c.in-Apply.is c.deref-in-Apply.ensures.value)
    c.first_subs_of.ensures
