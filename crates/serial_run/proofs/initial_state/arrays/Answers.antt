use Rattle.std.proofs.Common.{◌∙◌, ◌+◌, ◌<◌, ◌++◌, ap, drop, map, refl, subst}
use Rattle.array_meaning.specs.Resolution.{initial_array}
use Rattle.serial_run.specs.InitialState.{array_of}
use Rattle.serial_run.proofs.NamedValues.{next_value}
use Rattle.serial_run.proofs.initial_state.arrays.Goals as goal

pub loop-place-preserved : goal.loop-place-preserved
loop-place-preserved c =
    ap (λ l. l ++ map (λ e. initial_array e.what) (drop (c.loop-place.place + 1) c.args.names.now)) c.in_ok-push.ensures.items
    ∙ next_value (λ e. initial_array e.what) array_of (λ e. refl) c.args.names.now c.loop-place.place c.loop-place.arrays.items c.in_ok-array.array
    (subst (λ m. c.loop-place.place < m) c.len-place-end.ensures c.loop-place-test.true) c.in_ok-array.ensures c.loop-place.invariant
