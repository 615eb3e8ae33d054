use Rattle.std.proofs.Common.{◌≡◌, drop}
use Rattle.resolved_program.specs.Resolved.{subscripts_of}
use Rattle.statement_trail.specs.Anchors.{are_all_foreknown}
use Rattle.anchor_code.proofs.foreknown.are_all_foreknown.Given as goal

-- they are where those that are left are
abbrev pub invariant-loop-d : goal.invariant-loop-d
invariant-loop-d l = are_all_foreknown (subscripts_of (drop l.d-index l.subscripts)) ≡ are_all_foreknown (subscripts_of l.subscripts)
