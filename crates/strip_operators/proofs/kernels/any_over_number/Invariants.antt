use Rattle.std.proofs.Common.{◌≡◌, ◌<◌, ◌≤◌, ℕ, pos, ◌∷◌, [], Ok}
use Rattle.std.specs.Prelude.{slice_index_or}
use Rattle.array_meaning.specs.Elementals.{operated}
use Rattle.strip_operators.proofs.kernels.any_over_number.Given as goal

-- what is before the place is done, and what is behind it is as it was
abbrev pub invariant-loop-i : goal.invariant-loop-i
invariant-loop-i l =
    ((k : ℕ) → k < l.i → operated l.op (slice_index_or l.initial.out k (pos 0) ∷ l.b ∷ []) ≡ Ok (slice_index_or l.out k (pos 0)))
    × ((k : ℕ) → l.i ≤ k → slice_index_or l.out k (pos 0) ≡ slice_index_or l.initial.out k (pos 0))
