use Rattle.std.proofs.Common.{◌≡◌, ◌*◌, ◌∷◌, length}
use Rattle.term_values.specs.States.{state_of}
use Rattle.strips.specs.Places.{AreRuns}
use Rattle.strips.proofs.row_places.row_places.Given as goal

-- the first places of the rows so far
abbrev pub invariant-loop-y : goal.invariant-loop-y
invariant-loop-y l = (length l.firsts.items ≡ l.y) × AreRuns (state_of l.s) (l.first ∷ l.others) l.a l.ds (l.y * l.first) l.firsts.items
