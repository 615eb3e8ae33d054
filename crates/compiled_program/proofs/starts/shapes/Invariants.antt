use Rattle.std.proofs.Common.{◌≡◌, ◌++◌, drop, map}
use Rattle.array_meaning.specs.Resolution.{initial_array}
use Rattle.compiled_program.proofs.starts.shapes.Given as goal

-- those so far, before those that are left, are all
abbrev pub invariant-loop-place : goal.invariant-loop-place
invariant-loop-place l =
    l.shapes.items ++ map (λ e. (initial_array e.what).dims) (drop l.place l.names) ≡ map (λ e. (initial_array e.what).dims) l.names
