use Rattle.std.proofs.Common.{◌≡◌, ◌++◌, drop, map}
use Rattle.compiled_program.specs.Starts.{start_of}
use Rattle.compiled_program.proofs.starts.first_values.Given as goal

-- those so far, before those that are left, are all
abbrev pub invariant-loop-place : goal.invariant-loop-place
invariant-loop-place l = l.values.items ++ map (λ e. start_of e.what) (drop l.place l.names) ≡ map (λ e. start_of e.what) l.names
