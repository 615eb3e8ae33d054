use Rattle.std.proofs.Common.{◌≡◌, ◌++◌, drop}
use Rattle.array_meaning.specs.Forall.{indices_at}
use Rattle.interference.proofs.indices.indices_at.Given as goal

-- the values so far, before those of the indices that are left
abbrev pub invariant-loop-p : goal.invariant-loop-p
invariant-loop-p l = indices_at l.axes l.number ≡ l.values.items ++ indices_at (drop l.p-index l.axes) l.left
