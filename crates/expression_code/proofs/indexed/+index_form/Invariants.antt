use Rattle.std.proofs.Common.{◌≡◌, ◌++◌, drop, map}
use Rattle.program_code.specs.ExpressionCode.{index_forms}
use Rattle.node_code.specs.Texts.{form}
use Rattle.resolved_program.specs.Resolved.{terms_of}
use Rattle.expression_code.proofs.Lists.{form_list}
use Rattle.expression_code.proofs.indexed.+index_form.Given as goal

-- what is made so far, before what the rest makes, is all
abbrev pub invariant-index_forms-loop-t : goal.invariant-index_forms-loop-t
invariant-index_forms-loop-t l = map form l.forms.items ++ form_list (index_forms (terms_of (drop l.t-index l.terms))) ≡ form_list (index_forms (terms_of l.terms))
