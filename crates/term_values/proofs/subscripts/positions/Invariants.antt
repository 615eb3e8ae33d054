use Rattle.std.proofs.Common.{◌≡◌, ◌≤◌, ◌++◌, drop}
use Rattle.array_meaning.specs.Sections.{positions}
use Rattle.term_values.proofs.subscripts.positions.Given as goal

-- the positions so far, before those of the rest
abbrev pub invariant-loop-n : goal.invariant-loop-n
invariant-loop-n l = (positions l.extents l.number ≡ l.x.items ++ positions (drop l.n-index l.extents) l.rest) × (l.rest ≤ l.number)
