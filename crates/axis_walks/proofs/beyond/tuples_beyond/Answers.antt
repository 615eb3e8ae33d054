use Rattle.std.proofs.Common.{◌≡◌, ◌≤◌, ◌<◌, ◌-◌, ◌^◌, All, length, map, sym, ◌∙◌, ap, subst, arith, drop, inl, inr}
use Rattle.std.proofs.lemmas.List.{length-map}
use Rattle.hpf_base.specs.ElementOrder.{product}
use Rattle.axis_walks.specs.Rows.{both, first_alone}
use Rattle.axis_walks.proofs.Tests.{is_one}
use Rattle.axis_walks.proofs.RowLaws.{any-map, axis-below, axis-fits, is_empty, last-picked, next-picked, none-alone, some-extents}
use Rattle.axis_walks.proofs.beyond.tuples_beyond.Goals.{then-extents-eq0-via-then-extents-eq0, then-extents-eq0-via-else-extents-eq0+then-has_empty}
use Rattle.axis_walks.proofs.beyond.tuples_beyond.Goals as goal

pub returns-then-extents-eq0-clause-each : goal.returns-then-extents-eq0-clause-each
returns-then-extents-eq0-clause-each c = λ a b outer inner t below.
    ap (is_one t) c.in_ok-split.ensures.1
    ∙ elim c.then-extents-eq0.branch [
      | then-extents-eq0-via-then-extents-eq0 w ↦ none-alone c.args.extents.now (map (λ v. v.items) c.args.outer.now) a b t (inl w.if-extents-eq0.true) outer below
      | then-extents-eq0-via-else-extents-eq0+then-has_empty w ↦ none-alone c.args.extents.now (map (λ v. v.items) c.args.outer.now) a b t
          (inr (any-map (λ v. v.items) is_empty c.args.outer.now ∙ sym w.has_empty.ensures ∙ w.if-has_empty.true)) outer below
    ]

pub more-requires-clause-within : goal.more-requires-clause-within
more-requires-clause-within c =
    let extents = c.args.extents.now in
    let positive = some-extents extents (map (λ v. v.items) c.args.outer.now) (length-map c.args.outer.now (λ v. v.items) ∙ c.requires.outer_axes) c.requires.places
    (any-map (λ v. v.items) is_empty c.args.outer.now ∙ sym c.has_empty.ensures ∙ c.if-has_empty.false) in
    axis-fits extents c.loop-axis.axis (2 ^ 32) c.loop-axis.split.within.items positive c.loop-axis.invariant.0 c.loop-axis.invariant.1 c.requires.few
    c.loop-axis.invariant.2.below

pub more-requires-clause-beyond : goal.more-requires-clause-beyond
more-requires-clause-beyond c =
    let extents = c.args.extents.now in
    let positive = some-extents extents (map (λ v. v.items) c.args.outer.now) (length-map c.args.outer.now (λ v. v.items) ∙ c.requires.outer_axes) c.requires.places
    (any-map (λ v. v.items) is_empty c.args.outer.now ∙ sym c.has_empty.ensures ∙ c.if-has_empty.false) in
    axis-fits extents c.loop-axis.axis (2 ^ 32) c.loop-axis.split.beyond.items positive c.loop-axis.invariant.0 c.loop-axis.invariant.1 c.requires.few
    c.loop-axis.invariant.3.below

pub more-requires-clause-places : goal.more-requires-clause-places
more-requires-clause-places c =
    axis-below (λ v. v.items) c.args.extents.now c.args.outer.now c.loop-axis.axis c.index-outer-axis.result c.deref.result.now c.requires.places c.requires.outer_axes
    c.loop-axis.invariant.0 c.loop-axis.invariant.1 c.index-outer-axis.is c.deref.ensures.value

pub loop-axis-preserved : goal.loop-axis-preserved
loop-axis-preserved c =
    let extents = c.args.extents.now in
    let axis = c.loop-axis.axis in
    let low : 1 ≤ axis - 1 = omega (arith, c.loop-axis-test.true) in
    let high : axis - 1 ≤ length extents = omega (arith, c.loop-axis.invariant.1) in
    let os = drop axis (map (λ v. v.items) c.args.outer.now) in
    let is = drop axis (map (λ v. v.items) c.args.inner.now) in (
      low,
      high,
      next-picked (λ v. v.items) both extents c.args.outer.now c.args.inner.now axis c.index-outer-axis.result c.index-inner-axis.result c.deref.result.now
          c.deref-in-loop-axis.result.now c.in_ok-split-2.split.within.items c.requires.outer_axes c.requires.inner_axes c.loop-axis.invariant.0 c.loop-axis.invariant.1
          c.index-outer-axis.is c.deref.ensures.value c.index-inner-axis.is c.deref-in-loop-axis.ensures.value
          (c.in_ok-split-2.ensures.within (drop axis extents) os is c.loop-axis.invariant.2),
      next-picked (λ v. v.items) first_alone extents c.args.outer.now c.args.inner.now axis c.index-outer-axis.result c.index-inner-axis.result c.deref.result.now
          c.deref-in-loop-axis.result.now c.in_ok-split-2.split.beyond.items c.requires.outer_axes c.requires.inner_axes c.loop-axis.invariant.0 c.loop-axis.invariant.1
          c.index-outer-axis.is c.deref.ensures.value c.index-inner-axis.is c.deref-in-loop-axis.ensures.value
          (c.in_ok-split-2.ensures.beyond (drop axis extents) os is c.loop-axis.invariant.2 c.loop-axis.invariant.3),
    )

pub beyond-requires-clause-within : goal.beyond-requires-clause-within
beyond-requires-clause-within c =
    let extents = c.args.extents.now in
    let positive = some-extents extents (map (λ v. v.items) c.args.outer.now) (length-map c.args.outer.now (λ v. v.items) ∙ c.requires.outer_axes) c.requires.places
    (any-map (λ v. v.items) is_empty c.args.outer.now ∙ sym c.has_empty.ensures ∙ c.if-has_empty.false) in
    let last : c.loop-axis.axis ≡ 1 = omega (arith, c.loop-axis-test.false, c.loop-axis.invariant.0) in
    axis-fits extents 1 (2 ^ 32) c.loop-axis.split.within.items positive (omega arith) (omega (arith, last, c.loop-axis.invariant.1)) c.requires.few
    (subst (λ axis. All (λ n. n < product (drop axis extents)) c.loop-axis.split.within.items) last c.loop-axis.invariant.2.below)

pub beyond-requires-clause-beyond : goal.beyond-requires-clause-beyond
beyond-requires-clause-beyond c =
    let extents = c.args.extents.now in
    let positive = some-extents extents (map (λ v. v.items) c.args.outer.now) (length-map c.args.outer.now (λ v. v.items) ∙ c.requires.outer_axes) c.requires.places
    (any-map (λ v. v.items) is_empty c.args.outer.now ∙ sym c.has_empty.ensures ∙ c.if-has_empty.false) in
    let last : c.loop-axis.axis ≡ 1 = omega (arith, c.loop-axis-test.false, c.loop-axis.invariant.0) in
    axis-fits extents 1 (2 ^ 32) c.loop-axis.split.beyond.items positive (omega arith) (omega (arith, last, c.loop-axis.invariant.1)) c.requires.few
    (subst (λ axis. All (λ n. n < product (drop axis extents)) c.loop-axis.split.beyond.items) last c.loop-axis.invariant.3.below)

pub returns-clause-below : goal.returns-clause-below
returns-clause-below c =
    let extents = c.args.extents.now in
    let last : c.loop-axis.axis ≡ 1 = omega (arith, c.loop-axis-test.false, c.loop-axis.invariant.0) in
    (last-picked (λ v. v.items) extents c.args.outer.now c.args.inner.now c.loop-axis.axis c.loop-axis.split.within.items c.loop-axis.split.beyond.items
    c.index-outer-0.result c.index-inner-0.result c.deref-2.result.now c.deref-3.result.now c.in_ok-tuples.tuples.items c.requires.outer_axes c.requires.inner_axes
    last c.loop-axis.invariant c.index-outer-0.is c.deref-2.ensures.value c.index-inner-0.is c.deref-3.ensures.value c.in_ok-tuples.ensures).below

pub returns-clause-each : goal.returns-clause-each
returns-clause-each c =
    let extents = c.args.extents.now in
    let last : c.loop-axis.axis ≡ 1 = omega (arith, c.loop-axis-test.false, c.loop-axis.invariant.0) in
    (last-picked (λ v. v.items) extents c.args.outer.now c.args.inner.now c.loop-axis.axis c.loop-axis.split.within.items c.loop-axis.split.beyond.items
    c.index-outer-0.result c.index-inner-0.result c.deref-2.result.now c.deref-3.result.now c.in_ok-tuples.tuples.items c.requires.outer_axes c.requires.inner_axes
    last c.loop-axis.invariant c.index-outer-0.is c.deref-2.ensures.value c.index-inner-0.is c.deref-3.ensures.value c.in_ok-tuples.ensures).each 0
