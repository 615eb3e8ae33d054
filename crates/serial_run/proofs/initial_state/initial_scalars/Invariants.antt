use Rattle.std.proofs.Common.{◌≡◌, ◌++◌, drop, map}
use Rattle.array_meaning.specs.Resolution.{initial_scalar}
use Rattle.serial_run.proofs.initial_state.initial_scalars.Given as goal

-- those so far, before those that are left, are all
abbrev pub invariant-loop-place : goal.invariant-loop-place
invariant-loop-place l = l.scalars.items ++ map (λ e. initial_scalar e.what) (drop l.place l.names) ≡ map (λ e. initial_scalar e.what) l.names
