use Rattle.std.proofs.Common.{◌≡◌, ◌++◌, drop}
use Rattle.program_code.specs.ExpressionCode.{index_subs}
use Rattle.nest_syntax.specs.NestTerms.{all_indexed}
use Rattle.statement_trail.specs.NestParts.{index_in}
use Rattle.node_code.specs.Texts.{subs}
use Rattle.resolved_program.specs.Resolved.{terms_of}
use Rattle.node_codegen.proofs.nest_terms.nest_subs.Given as goal

-- what is made so far, before what the rest makes, is all
abbrev pub invariant-loop-t : goal.invariant-loop-t
invariant-loop-t l =
    subs l.left.items ++ index_subs (all_indexed (index_in l.axes 0) (terms_of (drop l.t-index l.terms))) ≡ index_subs (all_indexed (index_in l.axes 0) (terms_of l.terms))
