use Rattle.std.proofs.Common.{sym, subst, arith, get_or}
use Rattle.std.proofs.lemmas.Option.{get_or_from_slice_get}
use borrow.Author.Count.{below_more}
use Rattle.hpf_base.specs.ElementOrder.{elements}
use Rattle.hpf_base.proofs.Elements.{length-elements}
use Rattle.mappings.specs.Mapping.{MapsInside}
use Rattle.case_mappings.proofs.inside.all_inside.Goals as goal

pub loop-number-preserved : goal.loop-number-preserved
loop-number-preserved c = λ k d below.
    below_more (λ j. MapsInside c.args.map.now (get_or (elements c.args.shape.now) j d)) c.loop-number.number (λ j before. c.loop-number.invariant j d before)
    (subst (MapsInside c.args.map.now)
    (sym (get_or_from_slice_get (elements c.args.shape.now) c.loop-number.number c.nth_element-index.result d c.nth_element-index.ensures.value))
    (c.is_inside.ensures c.if-not-is_inside.false)) k below

pub returns : goal.returns
returns c = λ yes k d within.
    c.loop-number.invariant k d
    (omega (arith, within, length-elements c.args.shape.now, c.element_count-number-end.ensures.value, c.loop-number-test.false))
