use Rattle.std.proofs.Common.{◌≡◌, ◌++◌, drop}
use Rattle.array_meaning.specs.Sections.{extents}
use Rattle.term_values.proofs.spaces.extents.Given as goal

-- the extents so far, before those that are left
abbrev pub invariant-loop-d : goal.invariant-loop-d
invariant-loop-d l = extents l.ds ≡ l.ns.items ++ extents (drop l.d-index l.ds)
