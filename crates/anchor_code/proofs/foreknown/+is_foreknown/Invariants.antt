use Rattle.std.proofs.Common.{◌≡◌, drop}
use Rattle.resolved_program.specs.Resolved.{terms_of}
use Rattle.statement_trail.specs.Anchors.{are_foreknown}
use Rattle.anchor_code.proofs.foreknown.+is_foreknown.Given as goal

-- they are where those that are left are
abbrev pub invariant-are_foreknown-loop-t : goal.invariant-are_foreknown-loop-t
invariant-are_foreknown-loop-t l = are_foreknown (terms_of (drop l.t-index l.terms)) ≡ are_foreknown (terms_of l.terms)
