use Rattle.std.proofs.Common.{◌≡◌, ◌++◌, drop, map}
use Rattle.node_code.specs.Texts.{anchor_sub}
use Rattle.program_code.specs.ExpressionCode.{anchor_sub_code}
use Rattle.resolved_program.specs.Resolved.{subscripts_of}
use Rattle.statement_trail.specs.Anchors.{section_terms}
use Rattle.anchor_code.proofs.sections.section_anchor_subs.Given as goal

-- what is made so far, before what the rest makes, is all
abbrev pub invariant-loop-d : goal.invariant-loop-d
invariant-loop-d l =
    map anchor_sub l.made.items ++ map anchor_sub_code (section_terms (subscripts_of (drop l.d-index l.subscripts))) ≡ map anchor_sub_code (section_terms (subscripts_of l.subscripts))
