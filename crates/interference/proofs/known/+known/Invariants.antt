use Rattle.std.proofs.Common.{◌≡◌, drop}
use Rattle.array_meaning.specs.Touches.{are_known}
use Rattle.resolved_program.specs.Resolved.{terms_of}
use Rattle.interference.proofs.known.+known.Given as goal

-- all are known where those that are left are
abbrev pub invariant-are_known-loop-t : goal.invariant-are_known-loop-t
invariant-are_known-loop-t l = are_known l.assigned (terms_of (drop l.t-index l.t-items)) ≡ are_known l.assigned (terms_of l.t-items)
