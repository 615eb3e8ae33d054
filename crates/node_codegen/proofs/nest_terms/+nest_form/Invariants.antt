use Rattle.std.proofs.Common.{◌≡◌, ◌++◌, drop, map}
use Rattle.program_code.specs.ExpressionCode.{index_forms}
use Rattle.nest_syntax.specs.NestTerms.{all_indexed}
use Rattle.statement_trail.specs.NestParts.{index_in}
use Rattle.node_code.specs.Texts.{form}
use Rattle.resolved_program.specs.Resolved.{terms_of}
use Rattle.expression_code.proofs.Lists.{form_list}
use Rattle.node_codegen.proofs.nest_terms.+nest_form.Given as goal

-- what is made so far, before what the rest makes, is all
abbrev pub invariant-nest_forms-loop-t : goal.invariant-nest_forms-loop-t
invariant-nest_forms-loop-t l =
    map form l.forms.items ++ form_list (index_forms (all_indexed (index_in l.axes 0) (terms_of (drop l.t-index l.terms))))
    ≡ form_list (index_forms (all_indexed (index_in l.axes 0) (terms_of l.terms)))
