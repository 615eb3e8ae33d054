use Rattle.std.proofs.Common.{◌≡◌, ℕ, ◌+◌, ◌-◌, ◌*◌, ◌<◌, ◌≤◌, All, List, ap, arith, drop, length, map, subst, sym, ◌∙◌}
use Rattle.std.proofs.lemmas.List.{get_or_default}
use Rattle.std.specs.List.{flat_map}
use Rattle.hpf_base.specs.ElementOrder.{product}
use Rattle.hpf_base.specs.declared.limits.TheConstants.{MAX_ELEMENTS}
use Rattle.owner_tables.specs.Columns.{IsFilled, extents_along, part_in, parts_at}
use Rattle.owner_tables.specs.Samples.{AreSamples}
use Rattle.owner_tables.proofs.SampleLaws.{extents-many, extents-same, extents-some, few-more, part-few, samples-more}
use Rattle.owner_tables.proofs.samples.samples.Goals as goal

pub bounds-other-dim : goal.bounds-other-dim
bounds-other-dim c =
    omega (arith, c.loop-done-test.true, extents-many c.args.one.now, extents-many c.args.other.now, ap length c.requires.extents)

pub sample_places-requires-clause-other : goal.sample_places-requires-clause-other
sample_places-requires-clause-other c =
    let one = c.args.one.now in
    let other = c.args.other.now in
    let k = length one - 1 - c.loop-done.done in
    let within : k < length one = omega (arith, c.loop-done-test.true) in
    let within' : k < length other = omega (arith, within, extents-many one, extents-many other, ap length c.requires.extents) in
    let d = c.index-other-dim.result in
    let filled : IsFilled c.requires.other.0 d = subst (IsFilled c.requires.other.0) (sym c.index-other-dim.is) (c.requires.other.1 k d within') in
    filled.places ∙ extents-same one other k c.index-one-dim.result d c.requires.extents within c.index-one-dim.is c.index-other-dim.is

pub sample_places-requires-clause-few : goal.sample_places-requires-clause-few
sample_places-requires-clause-few c = λ place below.
    let one = c.args.one.now in
    let k = length one - 1 - c.loop-done.done in
    let within : k < length one = omega (arith, c.loop-done-test.true) in
    let column = c.index-one-dim.result in
    subst (λ x. part_in x place < 64) (sym c.index-one-dim.is)
    (part-few one k place column (extents-some c.requires.one.0 one c.requires.one.1) c.requires.few within (subst (λ x. place < x.extent) c.index-one-dim.is below))

pub sample_places-requires-clause-few_others : goal.sample_places-requires-clause-few_others
sample_places-requires-clause-few_others c = λ place below.
    let one = c.args.one.now in
    let other = c.args.other.now in
    let k = length one - 1 - c.loop-done.done in
    let within : k < length one = omega (arith, c.loop-done-test.true) in
    let within' : k < length other = omega (arith, within, extents-many one, extents-many other, ap length c.requires.extents) in
    let column = c.index-other-dim.result in
    let upto : place < column.extent =
    omega (arith, below, extents-same one other k c.index-one-dim.result column c.requires.extents within c.index-one-dim.is c.index-other-dim.is) in
    subst (λ x. part_in x place < 64) (sym c.index-other-dim.is)
    (part-few other k place column (extents-some c.requires.other.0 other c.requires.other.1)
    (subst (λ es. (at : ℕ) → at < product es → parts_at other at < 64) c.requires.extents c.requires.few_others) within'
    (subst (λ x. place < x.extent) c.index-other-dim.is upto))

pub with_places-requires-clause-few : goal.with_places-requires-clause-few
with_places-requires-clause-few c =
    let one = c.args.one.now in
    let done = c.loop-done.done in
    let k = length one - 1 - done in
    let within : k < length one = omega (arith, c.loop-done-test.true) in
    let next : length one - done ≡ k + 1 = omega (arith, c.loop-done-test.true) in
    let most = product (extents_along (drop (k + 1) one)) in
    let column = c.index-one-dim-in-loop-done.result in
    let numbers : List ℕ → Type 0 = λ ns. All (λ n. n < most) ns in
    let few : most * column.extent ≤ MAX_ELEMENTS = few-more one k column MAX_ELEMENTS within c.index-one-dim-in-loop-done.is (extents-some c.requires.one.0 one c.requires.one.1) c.requires.size in (
      most,
      subst numbers (sym c.deref.ensures.value) (subst (λ j. All (λ n. n < product (extents_along (drop j one))) c.loop-done.positions.items) next c.loop-done.invariant.below),
      subst (λ e. most * e ≤ MAX_ELEMENTS) (sym c.extent.ensures) few,
    )

pub loop-done-preserved : goal.loop-done-preserved
loop-done-preserved c =
    let one = c.args.one.now in
    let other = c.args.other.now in
    let done = c.loop-done.done in
    let k = length one - 1 - done in
    let within : k < length one = omega (arith, c.loop-done-test.true) in
    let within' : k < length other = omega (arith, within, extents-many one, extents-many other, ap length c.requires.extents) in
    let next : length one - done ≡ k + 1 = omega (arith, c.loop-done-test.true) in
    let now : k ≡ length one - (done + 1) = omega (arith, c.loop-done-test.true) in
    let column = c.index-one-dim.result in
    let ns = c.loop-done.positions.items in
    let own = c.in_ok-places.places.items in
    let slower : AreSamples (product (extents_along (drop (k + 1) one))) (parts_at (drop (k + 1) one)) (parts_at (drop (k + 1) other)) ns =
    subst (λ j. AreSamples (product (extents_along (drop j one))) (parts_at (drop j one)) (parts_at (drop j other)) ns) next c.loop-done.invariant in
    let extent : c.extent.result ≡ column.extent = c.extent.ensures ∙ ap (λ x. x.extent) (c.index-one-dim-in-loop-done.is ∙ get_or_default one k c.index-one-dim-in-loop-done.result column within ∙ sym c.index-one-dim.is) in
    let items : flat_map (λ n. map (λ p. n * column.extent + p) own) ns ≡ c.in_ok-positions.positions.items =
    sym (c.in_ok-positions.ensures ∙ (λ i. flat_map (λ n. map (λ p. n * extent i + p) (c.deref-in-loop-done.ensures.value i)) (c.deref.ensures.value i))) in
    subst (λ j. AreSamples (product (extents_along (drop j one))) (parts_at (drop j one)) (parts_at (drop j other)) c.in_ok-positions.positions.items) now
    (subst (AreSamples (product (extents_along (drop k one))) (parts_at (drop k one)) (parts_at (drop k other))) items
    (samples-more one other k column c.index-other-dim.result ns own within within' c.index-one-dim.is c.index-other-dim.is
    (extents-same one other k column c.index-other-dim.result c.requires.extents within c.index-one-dim.is c.index-other-dim.is) slower c.in_ok-places.ensures))

pub returns : goal.returns
returns c =
    let one = c.args.one.now in
    let other = c.args.other.now in
    let none : length one - c.loop-done.done ≡ 0 = omega (arith, c.loop-done-test.false) in
    subst (λ j. AreSamples (product (extents_along (drop j one))) (parts_at (drop j one)) (parts_at (drop j other)) c.loop-done.positions.items) none c.loop-done.invariant
