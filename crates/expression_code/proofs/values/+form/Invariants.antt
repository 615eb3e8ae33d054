use Rattle.std.proofs.Common.{◌≡◌, ◌++◌, drop, map}
use Rattle.program_code.specs.ExpressionCode.{forms_of}
use Rattle.node_code.specs.Texts.{form}
use Rattle.resolved_program.specs.Resolved.{terms_of}
use Rattle.expression_code.proofs.Lists.{form_list}
use Rattle.expression_code.proofs.values.+form.Given as goal

-- what is made so far, before what the rest makes, is all
abbrev pub invariant-forms_of-loop-t : goal.invariant-forms_of-loop-t
invariant-forms_of-loop-t l = map form l.forms.items ++ form_list (forms_of l.at (terms_of (drop l.t-index l.terms))) ≡ form_list (forms_of l.b (terms_of l.terms))
