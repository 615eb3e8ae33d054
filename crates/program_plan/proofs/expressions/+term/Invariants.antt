use Rattle.std.proofs.Common.{◌≡◌, drop, vec_len}
use Rattle.syntax_tree.specs.Expression.{arguments_of, parts_of}
use Rattle.array_meaning.specs.Resolution.{section_subscripts, terms_of}
use Rattle.resolved_program.specs.Made.{before, terms_before}
use Rattle.resolved_program.specs.Resolved.{with_subscript}
use Rattle.program_plan.proofs.expressions.+term.Given as goal

-- what is made so far, before what the rest makes, is all
abbrev pub invariant-argument_terms-loop-e : goal.invariant-argument_terms-loop-e
invariant-argument_terms-loop-e l =
    terms_before l.terms.items (terms_of l.names l.indices (arguments_of (drop l.e-index l.arguments))) ≡ terms_of l.names l.indices (arguments_of l.arguments)

abbrev pub invariant-subscript_terms-loop-part : goal.invariant-subscript_terms-loop-part
invariant-subscript_terms-loop-part l =
    terms_before l.terms.items (terms_of l.names l.indices (parts_of (drop l.part-index l.parts))) ≡ terms_of l.names l.indices (parts_of l.parts)

abbrev pub invariant-section_subscripts-loop-part : goal.invariant-section_subscripts-loop-part
invariant-section_subscripts-loop-part l = record {
  made : before with_subscript l.subscripts.items (section_subscripts l.names l.indices (drop l.part-index l.dims) (parts_of (drop l.part-index l.parts)))
      ≡ section_subscripts l.names l.indices l.dims (parts_of l.parts);
  count : vec_len l.subscripts ≡ l.part-index;
}
