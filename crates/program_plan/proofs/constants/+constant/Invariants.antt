use Rattle.std.proofs.Common.{◌≡◌, ◌++◌, drop}
use Rattle.array_meaning.specs.Resolution.{constants}
use Rattle.resolved_program.specs.Resolved.{terms_of}
use Rattle.program_plan.proofs.constants.+constant.Given as goal

-- the values so far, with those of the rest, are all
abbrev pub invariant-constants-loop-t : goal.invariant-constants-loop-t
invariant-constants-loop-t l = l.numbers ++ constants (terms_of (drop l.t-index l.terms)) ≡ constants (terms_of l.terms)
