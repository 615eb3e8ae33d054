use Rattle.std.proofs.Common.{◌≡◌, ◌+◌, List, drop, IfOk, arith, rules, sym, ap, ◌∙◌, subst}
use Rattle.std.proofs.Math.ListN.{drop_of_length-le}
use Rattle.std.proofs.lemmas.Grind.{common_steps}
use Rattle.expression_rules.proofs.Lists.{drop_item}
use Rattle.syntax_tree.specs.declared.expr.Expr.{Expr}
use Rattle.std.specs.Prelude.{slice_index_or}
use Rattle.syntax_tree.specs.Expression.{Element as Part, More as Parts, arguments_of, parts_of, subscript}
use Rattle.array_meaning.specs.Terms.{Apply, Element, More, Section}
use Rattle.array_meaning.specs.Resolution.{dims_of, no_dim, place_of, section_subscript, section_subscripts, term_of, terms_of}
use Rattle.resolved_program.specs.Made.{before, terms_before}
use Rattle.resolved_program.specs.Resolved.{term, with_subscript}
use Rattle.resolved_program.proofs.Rows.{apply_vec, element_vec, section_vec}
use Rattle.resolved_program.proofs.Made.{before_next, made_all, made_next, subscripts_made, terms_made}
use Rattle.program_plan.proofs.Parts.{applied, call_term, element_term, section_next, section_term, subscripted}
use Rattle.program_plan.proofs.expressions.+term.Goals as goal

pub term-returns-in-Call : goal.term-returns-in-Call
term-returns-in-Call t c =
    subst (λ w. IfOk c.called.result (λ t. term t ≡ w))
    (call_term c.args.names.now c.args.indices.now c.args.e.now c.in-Call.op c.in-Call.arguments c.deref-in-Call.result.now c.in-Call.is c.deref-in-Call.ensures.value)
    c.called.ensures

pub reference_term-returns-in-Some : goal.reference_term-returns-in-Some
reference_term-returns-in-Some t c =
    subst (λ w. IfOk c.subscripted.result (λ t. term t ≡ w))
    (ap (λ l. term_of c.args.names.now c.args.indices.now (Part c.args.reference.now.name (parts_of l))) c.deref.ensures.value
    ∙ ap (term_of c.args.names.now c.args.indices.now) (subscripted c.args.reference.now.name c.args.reference.now.subs c.in-Some.parts c.in-Some.is))
    c.subscripted.ensures

pub add_term-returns-in_ok-push-in-One : goal.add_term-returns-in_ok-push-in-One
add_term-returns-in_ok-push-in-One t c rest =
    let names = c.args.names.now in
    let indices = c.args.indices.now in
    ap (λ l. terms_before l (terms_of names indices rest)) c.in_ok-push-in-One.ensures.items
    ∙ before_next (λ t. More (term t)) c.args.terms.now.items c.in_ok-t-in-One.t (terms_of names indices rest)
    ∙ ap (λ t. terms_before c.args.terms.now.items (More t (terms_of names indices rest))) c.in_ok-t-in-One.ensures
    ∙ ap (λ s. terms_before c.args.terms.now.items (terms_of names indices (Parts (subscript s) rest))) (sym c.in-One.is)

pub add_term-returns-in-Triplet : goal.add_term-returns-in-Triplet
add_term-returns-in-Triplet t c rest = ap (λ s. terms_before c.args.terms.now.items (terms_of c.args.names.now c.args.indices.now (Parts (subscript s) rest))) (sym c.in-Triplet.is)

pub argument_terms-loop-e-preserved : goal.argument_terms-loop-e-preserved
argument_terms-loop-e-preserved t c =
    let all = λ (l : List Expr). terms_of c.args.names.now c.args.indices.now (arguments_of l) in
    made_next (λ t. More (term t)) all c.args.arguments.now c.loop-e.e-index c.e-item.result c.loop-e.terms.items c.push.new.self.items c.in_ok-t.t (all c.args.arguments.now)
    (drop_item c.args.arguments.now c.loop-e.e-index c.e-item.result c.loop-e-test.true c.e-item.is) c.in_ok-push.ensures.items
    (ap (λ t. More t (all (drop (c.loop-e.e-index + 1) c.args.arguments.now))) c.in_ok-t.ensures) c.loop-e.invariant

pub argument_terms-returns : goal.argument_terms-returns
argument_terms-returns t c =
    sym (terms_made c.loop-e.terms.items)
    ∙ made_all (λ t. More (term t)) (λ l. terms_of c.args.names.now c.args.indices.now (arguments_of l)) c.args.arguments.now c.loop-e.e-index c.loop-e.terms.items _ (omega arith) c.loop-e.invariant

pub called-returns-else-is_reduction : goal.called-returns-else-is_reduction
called-returns-else-is_reduction t c =
    apply_vec c.args.op c.in_ok-terms.terms
    ∙ ap (Apply c.args.op) c.in_ok-terms.ensures
    ∙ applied c.args.names.now c.args.indices.now c.args.op (arguments_of c.args.arguments.now) _
    (sym c.is_inquiry.ensures ∙ c.if-is_inquiry.false) (sym c.is_reduction.ensures ∙ c.if-is_reduction.false)

pub section_subscripts-loop-part-preserved : goal.section_subscripts-loop-part-preserved
section_subscripts-loop-part-preserved t c = record {
  made = section_next c.args.names.now c.args.indices.now c.args.dims.now c.args.parts.now c.loop-part.part-index c.part-item.result c.loop-part.subscripts.items
      c.push.new.self.items c.in_ok-subscript.subscript _
      (drop_item c.args.parts.now c.loop-part.part-index c.part-item.result c.loop-part-test.true c.part-item.is) c.in_ok-push.ensures.items
      (λ rest. c.in_ok-subscript.ensures rest ∙ ap (λ dim. section_subscript c.args.names.now c.args.indices.now dim (subscript c.part-item.result) rest)
      (c.dim_at-dim.ensures ∙ ap (λ n. slice_index_or c.args.dims.now n no_dim) (c.len.ensures ∙ c.loop-part.invariant.count)))
      c.loop-part.invariant.made;
  count = search (rules, common_steps);
}

pub section_subscripts-returns : goal.section_subscripts-returns
section_subscripts-returns t c =
    let names = c.args.names.now in
    let indices = c.args.indices.now in
    let n = c.loop-part.part-index in
    sym (subscripts_made c.loop-part.subscripts.items)
    ∙ ap (λ l. before with_subscript c.loop-part.subscripts.items (section_subscripts names indices (drop n c.args.dims.now) (parts_of l))) (sym (drop_of_length-le c.args.parts.now (omega arith)))
    ∙ c.loop-part.invariant.made

pub subscript_terms-returns : goal.subscript_terms-returns
subscript_terms-returns t c =
    sym (terms_made c.loop-part.terms.items)
    ∙ made_all (λ t. More (term t)) (λ l. terms_of c.args.names.now c.args.indices.now (parts_of l)) c.args.parts.now c.loop-part.part-index c.loop-part.terms.items _ (omega arith) c.loop-part.invariant

pub subscripted-returns-in_ok-subscripts : goal.subscripted-returns-in_ok-subscripts
subscripted-returns-in_ok-subscripts t c =
    element_vec c.place_of-place.result c.in_ok-subscripts.subscripts
    ∙ (λ i. Element (c.place_of-place.ensures i) (c.in_ok-subscripts.ensures i))
    ∙ element_term c.args.names.now c.args.indices.now c.args.name.now (parts_of c.args.parts.now) (sym c.is_element.ensures ∙ c.if-is_element.true)

pub subscripted-returns-in_ok-subscripts-2 : goal.subscripted-returns-in_ok-subscripts-2
subscripted-returns-in_ok-subscripts-2 t c =
    section_vec c.place_of-place.result c.in_ok-subscripts-2.subscripts
    ∙ (λ i. Section (c.place_of-place.ensures i) (c.in_ok-subscripts-2.ensures i))
    ∙ ap (λ ds. Section (place_of c.args.names.now c.args.name.now) (section_subscripts c.args.names.now c.args.indices.now ds (parts_of c.args.parts.now)))
    (c.dims_of-dims.ensures.value ∙ ap dims_of c.declared_as.ensures)
    ∙ section_term c.args.names.now c.args.indices.now c.args.name.now (parts_of c.args.parts.now) (sym c.is_element.ensures ∙ c.if-is_element.false)
