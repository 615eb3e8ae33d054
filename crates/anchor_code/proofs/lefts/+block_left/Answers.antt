use Rattle.std.proofs.Common.{◌+◌, arith, drop, sym, ap, ◌∙◌}
use Rattle.std.specs.Option.{option_or}
use Rattle.std.proofs.Math.ListN.{drop_of_length-le}
use Rattle.array_meaning.proofs.Lists.{drop_item}
use Rattle.resolved_program.specs.Resolved.{arms_of, block_of, statement}
use Rattle.resolved_program.proofs.Rows.{arm_parts, if_vec}
use Rattle.statement_trail.specs.Anchors.{arms_anchor, block_anchor, statement_anchor}
use Rattle.anchor_code.proofs.FirstLefts.{first_here, first_later}
use Rattle.anchor_code.proofs.lefts.+block_left.Goals as goal

pub block_left-returns-then-is_some : goal.block_left-returns-then-is_some
block_left-returns-then-is_some t c = λ index.
    let s = c.s-item.result in
    let rest = block_anchor index (block_of (drop (c.loop-s.s-index + 1) c.args.statements.now)) in
    sym (c.loop-s.invariant index)
    ∙ ap (λ l. block_anchor index (block_of l)) (drop_item c.args.statements.now c.loop-s.s-index s c.loop-s-test.true c.s-item.is)
    ∙ ap (λ o. option_or o rest) (c.statement_left-first.ensures index)
    ∙ first_here index c.statement_left-first.result rest (sym c.is_some.ensures ∙ c.if-is_some.true)

pub block_left-loop-s-preserved : goal.block_left-loop-s-preserved
block_left-loop-s-preserved t c = λ index.
    let s = c.s-item.result in
    let rest = block_anchor index (block_of (drop (c.loop-s.s-index + 1) c.args.statements.now)) in
    sym (first_later index c.statement_left-first.result rest (sym c.is_some.ensures ∙ c.if-is_some.false))
    ∙ ap (λ o. option_or o rest) (sym (c.statement_left-first.ensures index))
    ∙ ap (λ l. block_anchor index (block_of l)) (sym (drop_item c.args.statements.now c.loop-s.s-index s c.loop-s-test.true c.s-item.is))
    ∙ c.loop-s.invariant index

pub block_left-returns : goal.block_left-returns
block_left-returns t c = λ index.
    sym (c.loop-s.invariant index) ∙ ap (λ l. block_anchor index (block_of l)) (drop_of_length-le c.args.statements.now (omega arith))

pub statement_left-returns-in-If : goal.statement_left-returns-in-If
statement_left-returns-in-If t c = λ index.
    ap (λ st. statement_anchor index st) (ap statement c.in-If.is ∙ if_vec c.in-If.arms c.in-If.other)
    ∙ (λ i. option_or
    ((ap (λ l. arms_anchor index (arms_of l)) (sym c.deref.ensures.value) ∙ c.arms_left.ensures index) i)
    ((ap (λ l. block_anchor index (block_of l)) (sym c.deref-in-If.ensures.value) ∙ c.block_left.ensures index) i))
    ∙ sym (c.earlier.ensures index)

pub arms_left-returns-then-is_some : goal.arms_left-returns-then-is_some
arms_left-returns-then-is_some t c = λ index.
    let a = c.a-item.result in
    let tail = arms_of (drop (c.loop-a.a-index + 1) c.args.arms.now) in
    let rest = arms_anchor index tail in
    sym (c.loop-a.invariant index)
    ∙ ap (λ l. arms_anchor index (arms_of l)) (drop_item c.args.arms.now c.loop-a.a-index a c.loop-a-test.true c.a-item.is)
    ∙ ap (λ l. arms_anchor index l) (arm_parts a tail)
    ∙ ap (λ o. option_or o rest) (ap (λ l. block_anchor index (block_of l)) (sym c.deref.ensures.value) ∙ c.block_left-first.ensures index)
    ∙ first_here index c.block_left-first.result rest (sym c.is_some.ensures ∙ c.if-is_some.true)

pub arms_left-loop-a-preserved : goal.arms_left-loop-a-preserved
arms_left-loop-a-preserved t c = λ index.
    let a = c.a-item.result in
    let tail = arms_of (drop (c.loop-a.a-index + 1) c.args.arms.now) in
    let rest = arms_anchor index tail in
    sym (first_later index c.block_left-first.result rest (sym c.is_some.ensures ∙ c.if-is_some.false))
    ∙ ap (λ o. option_or o rest) (sym (ap (λ l. block_anchor index (block_of l)) (sym c.deref.ensures.value) ∙ c.block_left-first.ensures index))
    ∙ ap (λ l. arms_anchor index l) (sym (arm_parts a tail))
    ∙ ap (λ l. arms_anchor index (arms_of l)) (sym (drop_item c.args.arms.now c.loop-a.a-index a c.loop-a-test.true c.a-item.is))
    ∙ c.loop-a.invariant index

pub arms_left-returns : goal.arms_left-returns
arms_left-returns t c = λ index. sym (c.loop-a.invariant index) ∙ ap (λ l. arms_anchor index (arms_of l)) (drop_of_length-le c.args.arms.now (omega arith))
