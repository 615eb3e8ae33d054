use Rattle.std.proofs.Common.{◌≡◌, ◌≤◌, ◌++◌, length, drop}
use Rattle.array_meaning.specs.Sections.{subscripts_at}
use Rattle.term_values.proofs.subscripts.subscripts_at.Given as goal

-- the subscripts so far, before those that are left
abbrev pub invariant-loop-d : goal.invariant-loop-d
invariant-loop-d l = (l.used ≤ length l.tuple) × (subscripts_at l.ds l.tuple ≡ l.is.items ++ subscripts_at (drop l.d-index l.ds) (drop l.used l.tuple))
