use Rattle.std.proofs.Common.{◌≡◌, ◌++◌, drop, map}
use Rattle.array_meaning.specs.Terms.{list_of}
use Rattle.node_code.specs.Texts.{anchor_sub}
use Rattle.program_code.specs.ExpressionCode.{anchor_sub_code}
use Rattle.resolved_program.specs.Resolved.{terms_of}
use Rattle.statement_trail.specs.Anchors.{AtTerm}
use Rattle.anchor_code.proofs.elements.index_anchor_subs.Given as goal

-- what is made so far, before what the rest makes, is all
abbrev pub invariant-loop-t : goal.invariant-loop-t
invariant-loop-t l =
    map anchor_sub l.made.items ++ map anchor_sub_code (map AtTerm (list_of (terms_of (drop l.t-index l.terms)))) ≡ map anchor_sub_code (map AtTerm (list_of (terms_of l.terms)))
