use Rattle.std.proofs.Common.{◌+◌, drop, arith, sym, ap, ◌∙◌}
use Rattle.array_meaning.proofs.Lists.{drop_item}
use Rattle.array_meaning.specs.Terms.{Apply, Element, More, Section}
use Rattle.resolved_program.specs.Resolved.{subscripts_of, term, terms_of, with_subscript}
use Rattle.resolved_program.proofs.Forms.{apply_is, element_is, section_is}
use Rattle.resolved_program.proofs.Made.{made_all, made_next, subscripts_made, terms_made}
use Rattle.resolved_program.proofs.Rows.{apply_vec, element_vec, section_vec}
use Rattle.resolved_program.proofs.copies.+copied_term.Goals as goal

pub copied_term-returns-in_ok-subscripts-in-Element : goal.copied_term-returns-in_ok-subscripts-in-Element
copied_term-returns-in_ok-subscripts-in-Element t c =
    element_vec c.in-Element.a c.in_ok-subscripts-in-Element.subscripts
    ∙ ap (Element c.in-Element.a) c.in_ok-subscripts-in-Element.ensures
    ∙ element_is c.args.t.now _ c.in-Element.subscripts c.deref.result.now c.in-Element.is c.deref.ensures.value

pub copied_term-returns-in_ok-subscripts-in-Section : goal.copied_term-returns-in_ok-subscripts-in-Section
copied_term-returns-in_ok-subscripts-in-Section t c =
    section_vec c.in-Section.a c.in_ok-subscripts-in-Section.subscripts
    ∙ ap (Section c.in-Section.a) c.in_ok-subscripts-in-Section.ensures
    ∙ section_is c.args.t.now _ c.in-Section.subscripts c.deref-in-Section.result.now c.in-Section.is c.deref-in-Section.ensures.value

pub copied_term-returns-in_ok-operands-in-Apply : goal.copied_term-returns-in_ok-operands-in-Apply
copied_term-returns-in_ok-operands-in-Apply t c =
    apply_vec c.in-Apply.op c.in_ok-operands-in-Apply.operands
    ∙ ap (Apply c.in-Apply.op) c.in_ok-operands-in-Apply.ensures
    ∙ apply_is c.args.t.now _ c.in-Apply.operands c.deref-in-Apply.result.now c.in-Apply.is c.deref-in-Apply.ensures.value

pub copied_terms-loop-t-preserved : goal.copied_terms-loop-t-preserved
copied_terms-loop-t-preserved t c =
    made_next (λ t. More (term t)) terms_of c.args.terms.now c.loop-t.t-index c.t-item.result c.loop-t.made.items c.push.new.self.items c.in_ok-one.one (terms_of c.args.terms.now)
    (drop_item c.args.terms.now c.loop-t.t-index c.t-item.result c.loop-t-test.true c.t-item.is) c.in_ok-push.ensures.items
    (ap (λ t. More t (terms_of (drop (c.loop-t.t-index + 1) c.args.terms.now))) c.in_ok-one.ensures) c.loop-t.invariant

pub copied_terms-returns : goal.copied_terms-returns
copied_terms-returns t c =
    sym (terms_made c.loop-t.made.items)
    ∙ made_all (λ t. More (term t)) terms_of c.args.terms.now c.loop-t.t-index c.loop-t.made.items _ (omega arith) c.loop-t.invariant

pub copied_subscripts-loop-d-preserved : goal.copied_subscripts-loop-d-preserved
copied_subscripts-loop-d-preserved t c =
    made_next with_subscript subscripts_of c.args.subscripts.now c.loop-d.d-index c.d-item.result c.loop-d.made.items c.push.new.self.items c.in_ok-one.one (subscripts_of c.args.subscripts.now)
    (drop_item c.args.subscripts.now c.loop-d.d-index c.d-item.result c.loop-d-test.true c.d-item.is) c.in_ok-push.ensures.items
    (c.in_ok-one.ensures (subscripts_of (drop (c.loop-d.d-index + 1) c.args.subscripts.now))) c.loop-d.invariant

pub copied_subscripts-returns : goal.copied_subscripts-returns
copied_subscripts-returns t c =
    sym (subscripts_made c.loop-d.made.items)
    ∙ made_all with_subscript subscripts_of c.args.subscripts.now c.loop-d.d-index c.loop-d.made.items _ (omega arith) c.loop-d.invariant
