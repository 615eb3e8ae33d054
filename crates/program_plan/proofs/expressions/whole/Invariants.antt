use Rattle.std.proofs.Common.{◌≡◌, drop}
use Rattle.array_meaning.specs.Resolution.{whole}
use Rattle.resolved_program.specs.Made.{before}
use Rattle.resolved_program.specs.Resolved.{with_subscript}
use Rattle.program_plan.proofs.expressions.whole.Given as goal

-- the subscripts so far, before those of the rest, are all
abbrev pub invariant-loop-dim : goal.invariant-loop-dim
invariant-loop-dim l = before with_subscript l.subscripts.items (whole (drop l.dim-index l.dims)) ≡ whole l.dims
