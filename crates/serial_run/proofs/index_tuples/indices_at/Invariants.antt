use Rattle.std.proofs.Common.{◌≡◌, ◌≤◌, ◌++◌, drop}
use Rattle.array_meaning.specs.Forall.{indices_at}
use Rattle.serial_run.proofs.index_tuples.indices_at.Given as goal

-- the values so far, before those of the indices that are left
abbrev pub invariant-loop-p : goal.invariant-loop-p
invariant-loop-p l = (indices_at l.axes l.t ≡ l.values.items ++ indices_at (drop l.p-index l.axes) l.left) × (l.left ≤ l.t)
