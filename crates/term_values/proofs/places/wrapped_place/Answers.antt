use Rattle.std.proofs.Common.{◌≡◌, ◌∙◌, ◌≤◌, ◌-◌, length, drop, ap, sym, subst, pos, arith, Some}
use Rattle.array_meaning.specs.State.{element_place}
use Rattle.term_values.specs.Places.{in_64_bits}
use Rattle.term_values.proofs.ElementPlaces.{uneven, last_place, stop_in, step_in}
use Rattle.term_values.proofs.places.wrapped_place.Goals as goal

pub returns-then-dims-subscripts : goal.returns-then-dims-subscripts
returns-then-dims-subscripts c = sym (ap in_64_bits (uneven _ _ c.if-dims-subscripts.true))

pub loop-l-init : goal.loop-l-init
loop-l-init c = (let f : length c.args.dims.now ≤ length c.args.dims.now = omega arith in f, ap in_64_bits (last_place _ _ c.if-dims-subscripts.false))

pub returns-in_err-k : goal.returns-in_err-k
returns-in_err-k c =
    c.from_residual.ensures
    ∙ sym (ap in_64_bits (stop_in _ _ c.loop-l.l (record { lower = pos 0; upper = pos 0 }) (pos 0) c.loop-l-test.true c.loop-l.invariant.0 c.if-dims-subscripts.false (sym c.in_err-k.ensures)))

pub loop-l-preserved : goal.loop-l-preserved
loop-l-preserved c = (
  let f : c.loop-l.l - 1 ≤ length c.args.dims.now = omega (arith, c.loop-l.invariant.0) in f,
  step_in _ _ c.loop-l.l c.in_ok-k.k c.loop-l.place _ (record { lower = pos 0; upper = pos 0 }) (pos 0) c.loop-l-test.true c.loop-l.invariant.0 c.if-dims-subscripts.false (sym c.in_ok-k.ensures) c.loop-l.invariant.1 c.extent.ensures.value,
)

pub returns : goal.returns
returns c =
    let none : c.loop-l.l ≡ 0 = omega (arith, c.loop-l-test.false) in
    sym (subst (λ l. in_64_bits (element_place (drop l c.args.dims.now) (drop l c.args.subscripts.now)) ≡ Some c.loop-l.place) none c.loop-l.invariant.1)
