use Rattle.std.proofs.Common.{Some, None, ◌+◌, ◌<◌, length, sym, ap, ◌∙◌, arith, rules}
use Rattle.syntax_tree.specs.Expression.{expression, subscript, arguments_of, parts_of}
use Rattle.expr_reader.specs.Reading.{apart, arguments_at, call_at, part_at}
use Rattle.expr_reader.specs.TokenReading.{ahead, read, viewed, with_front}
use Rattle.expr_reader.proofs.Steps.{call_vec, called, reference_vec, name_kept, ends, expr_none, expr_step, more_kept, more_over, more_end, list_stops, list_closes, list_ends, list_goes_on}
use Rattle.expr_reader.proofs.reading.+reading.Goals as goal
use Rattle.expr_reader.proofs.reading.+reading.Goals.{more-in-Some+in_ok-other+in_default-2, more-in_default}

pub expr-returns-in_default-clause-value : goal.expr-returns-in_default-clause-value
expr-returns-in_default-clause-value t c = expr_none _ _ c.in_default.ensures.cases

pub expr-returns-in_default-2-clause-value : goal.expr-returns-in_default-2-clause-value
expr-returns-in_default-2-clause-value t c =
    expr_step _ c.in-Some.first.now c.in-Some.rest.now _ None c.in-Some.ensures.cases.0 (ap (viewed expression) (sym c.in_default-2.is) ∙ c.in_ok-tree.ensures.value)

pub expr-returns-clause-value : goal.expr-returns-clause-value
expr-returns-clause-value t c =
    ap Some c.in_ok-tree-2.ensures.value
    ∙ expr_step _ c.in-Some.first.now c.in-Some.rest.now _ (Some (expression c.in-Some-2.tree, c.in-Some-2.taken)) c.in-Some.ensures.cases.0
    (ap (viewed expression) (sym c.in-Some-2.is) ∙ c.in_ok-tree.ensures.value)

pub more-ops-preserved : goal.more-ops-preserved
more-ops-preserved t c = record {
  within =
      let lt : c.ops.taken < length c.args.tokens.now = c.in-Some.ensures.within (search rules) in
      let w = ends c.args.tokens.now c.skip.result.now (c.ops.taken + 1) _ _ c.in-Some-2.count c.skip.ensures (omega arith) c.in-Some-2.is c.in_ok-other.ensures.within in
      omega (arith, w);
  value =
      more_kept c.args.tokens.now c.ops.taken c.args.place (expression c.ops.tree) _ (expression c.in-Some-2.other) _ c.in-Some.op c.in-Some-2.count
      (ap expression c.in_ok-new.ensures.ok) (ap expression c.in_ok-new-2.ensures.ok) c.in-Some.ensures.value
      (ap (viewed expression) (sym c.in-Some-2.is) ∙ c.in_ok-other.ensures.value
      ∙ (λ i. (read (c.skip.ensures i)).core.expr (c.right_place.ensures i))) ∙ c.ops.invariant.value;
}

pub more-returns-clause-value : goal.more-returns-clause-value
more-returns-clause-value t c =
    elim c.match-operator.branch [
      | more-in-Some+in_ok-other+in_default-2 w ↦
          more_over c.args.tokens.now c.ops.taken c.args.place (expression c.ops.tree) w.in-Some.op w.in-Some.ensures.value
          (ap (viewed expression) (sym w.in_default-2.is) ∙ w.in_ok-other.ensures.value
          ∙ (λ i. (read (w.skip.ensures i)).core.expr (w.right_place.ensures i))) ∙ c.ops.invariant.value
      | more-in_default w ↦
          sym
          (more_end c.args.tokens.now c.ops.taken c.args.place (expression c.ops.tree) c.ops.taken (sym w.in_default.is ∙ c.operator.ensures.value))
          ∙ c.ops.invariant.value
    ]

pub list-returns-in_default-clause-value : goal.list-returns-in_default-clause-value
list-returns-in_default-clause-value t c =
    list_stops c.args.tokens.now c.parts.parts.items c.parts.taken _ c.parts.invariant.value
    (ap (viewed subscript) (sym c.in_default.is) ∙ c.in_ok-part.ensures.value ∙ ap (λ ts. part_at apart (λ d. (ahead ts d).core)) c.skip.ensures)

pub list-returns-then-closes-clause-value : goal.list-returns-then-closes-clause-value
list-returns-then-closes-clause-value t c =
    ap (λ v. Some (parts_of v, c.parts.taken + c.in-Some.count + 1)) c.in_ok-push.ensures.items
    ∙ list_closes c.args.tokens.now c.parts.parts.items c.parts.taken _ c.parts.invariant.value c.in-Some.part c.in-Some.count
    (ap (viewed subscript) (sym c.in-Some.is) ∙ c.in_ok-part.ensures.value ∙ ap (λ ts. part_at apart (λ d. (ahead ts d).core)) c.skip.ensures)
    (sym c.if-closes.true ∙ c.closes.ensures.value)

pub list-returns-then-not-separates-clause-value : goal.list-returns-then-not-separates-clause-value
list-returns-then-not-separates-clause-value t c =
    list_ends c.args.tokens.now c.parts.parts.items c.parts.taken _ c.parts.invariant.value c.in-Some.part c.in-Some.count
    (ap (viewed subscript) (sym c.in-Some.is) ∙ c.in_ok-part.ensures.value ∙ ap (λ ts. part_at apart (λ d. (ahead ts d).core)) c.skip.ensures)
    (sym c.if-closes.false ∙ c.closes.ensures.value) (sym c.if-not-separates.true ∙ c.separates.ensures.value)

pub list-parts-preserved : goal.list-parts-preserved
list-parts-preserved t c = record {
  within = search rules;
  value =
      ap (λ v. with_front (parts_of v) (c.parts.taken + c.in-Some.count + 1) (ahead c.args.tokens.now (c.parts.taken + c.in-Some.count + 1)).list) c.in_ok-push.ensures.items
      ∙ list_goes_on c.args.tokens.now c.parts.parts.items c.parts.taken _ c.parts.invariant.value c.in-Some.part c.in-Some.count
      (ap (viewed subscript) (sym c.in-Some.is) ∙ c.in_ok-part.ensures.value ∙ ap (λ ts. part_at apart (λ d. (ahead ts d).core)) c.skip.ensures)
      (sym c.if-not-separates.false ∙ c.separates.ensures.value);
}

pub reference-returns-clause-value : goal.reference-returns-clause-value
reference-returns-clause-value t c =
    (λ i. (reference_vec c.args.name c.in-Some.parts i, c.in-Some.taken + 1))
    ∙ name_kept c.args.rest.now c.args.name (Some (parts_of c.in-Some.parts.items, c.in-Some.taken)) (sym c.if-opens.true ∙ c.opens.ensures.value)
    (ap (viewed (λ v. parts_of v.items)) (sym c.in-Some.is) ∙ c.in_ok-parts.ensures.value ∙ ap (λ ts. (read ts).list) c.skip.ensures)

pub call-returns-clause-value : goal.call-returns-clause-value
call-returns-clause-value t c =
    called c.args.rest.now c.in-Some.op (arguments_of c.in-Some-2.arguments.items) _ c.in-Some-2.taken (call_vec c.in-Some-2.arguments)
    (sym c.if-not-opens.false ∙ c.opens.ensures.value)
    (ap (viewed (λ v. arguments_of v.items)) (sym c.in-Some-2.is) ∙ c.in_ok-arguments.ensures.value
    ∙ ap (λ ts. arguments_at (read ts)) c.skip.ensures)
    ∙ ap (call_at (ahead c.args.rest.now)) (sym c.in-Some.is)
