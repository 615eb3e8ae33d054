use Rattle.std.proofs.Common.{◌≡◌, ◌++◌, drop, map}
use Rattle.array_meaning.specs.Resolution.{initial_array}
use Rattle.serial_run.proofs.initial_state.arrays.Given as goal

-- those so far, before those that are left, are all
abbrev pub invariant-loop-place : goal.invariant-loop-place
invariant-loop-place l = l.arrays.items ++ map (λ e. initial_array e.what) (drop l.place l.names) ≡ map (λ e. initial_array e.what) l.names
