use Rattle.std.proofs.Common.{◌≡◌, ◌++◌, drop}
use Rattle.program_code.specs.ExpressionCode.{index_subs}
use Rattle.node_code.specs.Texts.{subs}
use Rattle.resolved_program.specs.Resolved.{terms_of}
use Rattle.expression_code.proofs.indexed.index_subs.Given as goal

-- what is made so far, before what the rest makes, is all
abbrev pub invariant-loop-t : goal.invariant-loop-t
invariant-loop-t l = subs l.left.items ++ index_subs (terms_of (drop l.t-index l.terms)) ≡ index_subs (terms_of l.terms)
