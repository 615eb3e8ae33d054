use Rattle.std.proofs.Common.{◌≡◌, ◌<◌, ◌≤◌, ℕ, pos, ◌∷◌, []}
use Rattle.std.specs.Prelude.{slice_index_or}
use Rattle.op_tables.specs.Operators.{value_of}
use Rattle.strip_operators.proofs.kernels.over.Given as goal

-- what is before the place is done, and what is behind it is as it was
abbrev pub invariant-loop-i : goal.invariant-loop-i
invariant-loop-i g l =
    ((k : ℕ) → k < l.i → slice_index_or l.out k (pos 0) ≡ value_of g.K.OfTwo.op (slice_index_or l.initial.out k (pos 0) ∷ slice_index_or l.b k (pos 0) ∷ []))
    × ((k : ℕ) → l.i ≤ k → slice_index_or l.out k (pos 0) ≡ slice_index_or l.initial.out k (pos 0))
