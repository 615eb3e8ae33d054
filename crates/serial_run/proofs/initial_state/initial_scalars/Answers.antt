use Rattle.std.proofs.Common.{◌∙◌, ◌+◌, ◌<◌, ◌++◌, ap, drop, map, refl, slice_get, subst}
use Rattle.array_meaning.specs.Resolution.{initial_scalar}
use Rattle.serial_run.specs.InitialState.{scalar_of}
use Rattle.serial_run.proofs.NamedValues.{next_value}
use Rattle.serial_run.proofs.initial_state.initial_scalars.Goals as goal

pub loop-place-preserved : goal.loop-place-preserved
loop-place-preserved c =
    ap (λ l. l ++ map (λ e. initial_scalar e.what) (drop (c.loop-place.place + 1) c.args.names.now)) c.in_ok-push_scalar.ensures
    ∙ next_value (λ e. initial_scalar e.what) scalar_of (λ e. refl) c.args.names.now c.loop-place.place c.loop-place.scalars.items (scalar_of (slice_get c.args.names.now c.loop-place.place))
    (subst (λ m. c.loop-place.place < m) c.len-place-end.ensures c.loop-place-test.true) refl c.loop-place.invariant
