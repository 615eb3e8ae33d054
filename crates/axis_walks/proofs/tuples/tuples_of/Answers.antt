use Rattle.std.proofs.Common.{◌≤◌, ◌<◌, ◌-◌, ◌^◌, All, length, map, sym, ◌∙◌, ap, subst, arith, drop}
use Rattle.std.proofs.lemmas.List.{length-map}
use Rattle.hpf_base.specs.ElementOrder.{product}
use Rattle.axis_products.specs.Products.{number_at}
use Rattle.axis_walks.proofs.RowLaws.{any-map, axis-below, axis-fits, combined-none, drop-numbers-below, is_empty, next-numbers, some-extents}
use Rattle.axis_walks.proofs.tuples.tuples_of.Goals as goal

pub returns-then-has_empty : goal.returns-then-has_empty
returns-then-has_empty c =
    c.new-tuples.ensures.items
    ∙ ap (map (number_at c.args.extents.now)) (sym (combined-none (map (λ v. v.items) c.args.lists.now)
    (any-map (λ v. v.items) is_empty c.args.lists.now ∙ sym c.has_empty.ensures ∙ c.if-has_empty.true)))

pub rows-requires-clause-after : goal.rows-requires-clause-after
rows-requires-clause-after c =
    let extents = c.args.extents.now in
    let positive = some-extents extents (map (λ v. v.items) c.args.lists.now) (length-map c.args.lists.now (λ v. v.items) ∙ c.requires.axes) c.requires.places
    (any-map (λ v. v.items) is_empty c.args.lists.now ∙ sym c.has_empty.ensures ∙ c.if-has_empty.false) in
    let some : 1 ≤ c.loop-axis.axis = omega (arith, c.loop-axis-test.true) in
    axis-fits extents c.loop-axis.axis (2 ^ 32) c.deref.result.now positive some c.loop-axis.invariant.0 c.requires.few
    (subst (All (λ n. n < product (drop c.loop-axis.axis extents))) (sym (c.deref.ensures.value ∙ c.loop-axis.invariant.1))
    (drop-numbers-below (λ v. v.items) extents c.args.lists.now c.loop-axis.axis c.requires.axes c.requires.places))

pub rows-requires-clause-places : goal.rows-requires-clause-places
rows-requires-clause-places c =
    let some : 1 ≤ c.loop-axis.axis = omega (arith, c.loop-axis-test.true) in
    axis-below (λ v. v.items) c.args.extents.now c.args.lists.now c.loop-axis.axis c.index-lists-axis.result c.deref-in-loop-axis.result.now c.requires.places c.requires.axes some
    c.loop-axis.invariant.0 c.index-lists-axis.is c.deref-in-loop-axis.ensures.value

pub loop-axis-preserved : goal.loop-axis-preserved
loop-axis-preserved c =
    let some : 1 ≤ c.loop-axis.axis = omega (arith, c.loop-axis-test.true) in
    let within : c.loop-axis.axis - 1 ≤ length c.args.extents.now = omega (arith, c.loop-axis.invariant.0) in (
      within,
      c.in_ok-tuples.ensures
          ∙ next-numbers (λ v. v.items) c.args.extents.now c.args.lists.now c.loop-axis.axis c.index-lists-axis.result c.deref.result.now c.deref-in-loop-axis.result.now c.requires.axes some
          c.loop-axis.invariant.0 c.index-lists-axis.is c.deref-in-loop-axis.ensures.value (c.deref.ensures.value ∙ c.loop-axis.invariant.1),
    )
