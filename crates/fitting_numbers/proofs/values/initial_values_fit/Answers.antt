use Rattle.std.proofs.Common.{◌≡◌, suc, ◌+◌, drop, arith, subst}
use Rattle.fitting_states.specs.FittingStates.{InitialValuesFit}
use Rattle.fitting_numbers.proofs.FittingValues.{next_fits}
use Rattle.fitting_numbers.proofs.values.initial_values_fit.Goals as goal

pub loop-place-preserved : goal.loop-place-preserved
loop-place-preserved c = λ rest.
    let next : c.loop-place.place + 1 ≡ suc c.loop-place.place = omega arith in
    c.loop-place.invariant (next_fits c.args.names.now c.loop-place.place c.value_at_fits.ensures (subst (λ k. InitialValuesFit (drop k c.args.names.now)) next rest))
