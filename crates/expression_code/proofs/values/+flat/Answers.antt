use Rattle.std.proofs.Common.{◌≡◌, ◌+◌, IfOk, ap, ◌∙◌, subst}
use Rattle.std.proofs.lemmas.List.{at_drop_all}
use Rattle.program_code.specs.ExpressionCode.{flat_of, flats_of, operated_flat}
use Rattle.node_code.specs.Flat.{Operated, Slot}
use Rattle.node_code.specs.Texts.{flat}
use Rattle.resolved_program.proofs.Forms.{apply_is, element_is}
use Rattle.resolved_program.specs.Resolved.{terms_of}
use Rattle.expression_code.proofs.Lists.{flats_made}
use Rattle.node_code.proofs.Rows.{operated_vec}
use Rattle.expression_code.proofs.values.+flat.Goals as goal

pub flat_of-returns-in_ok-plus-in-Element : goal.flat_of-returns-in_ok-plus-in-Element
flat_of-returns-in_ok-plus-in-Element t c =
    ap Slot (c.in_ok-plus-in-Element.ensures ∙ ap (λ n. c.args.b + n) c.in_ok-all_slots_of-in-Element.ensures)
    ∙ ap (flat_of c.args.b) (element_is c.args.t.now _ c.in-Element.subscripts c.deref.result.now c.in-Element.is c.deref.ensures.value)

pub flat_of-returns-in-Apply : goal.flat_of-returns-in-Apply
flat_of-returns-in-Apply t c =
    subst (λ w. IfOk c.operated_flat.result (λ f. flat f ≡ flat_of c.args.b w)) (apply_is c.args.t.now _ c.in-Apply.operands c.deref-in-Apply.result.now c.in-Apply.is c.deref-in-Apply.ensures.value)
    c.operated_flat.ensures

pub operated-returns : goal.operated-returns
operated-returns t c = operated_vec c.args.op c.in_ok-flats_of.field-0 ∙ ap (Operated c.args.op) c.in_ok-flats_of.ensures

pub flats_of-returns : goal.flats_of-returns
flats_of-returns t c =
    flats_made c.loop-t.flats.items _ _ (at_drop_all (λ ts. flats_of c.loop-t.at (terms_of ts)) c.args.terms.now c.loop-t.t-index c.loop-t-test.false) c.loop-t.invariant
