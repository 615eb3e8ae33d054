use Rattle.std.proofs.Common.{◌≡◌, ◌++◌, drop}
use Rattle.program_code.specs.ExpressionCode.{subs_of}
use Rattle.node_code.specs.Texts.{subs}
use Rattle.resolved_program.specs.Resolved.{subscripts_of}
use Rattle.expression_code.proofs.values.subs_of.Given as goal

-- what is made so far, before what the rest makes, is all
abbrev pub invariant-loop-d : goal.invariant-loop-d
invariant-loop-d l = subs l.left.items ++ subs_of l.at (subscripts_of (drop l.d-index l.subscripts)) ≡ subs_of l.b (subscripts_of l.subscripts)
