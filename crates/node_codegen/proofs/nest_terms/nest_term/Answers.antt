use Rattle.std.proofs.Common.{◌++◌, ap, ◌∙◌}
use Rattle.program_code.specs.ExpressionCode.{index_form}
use Rattle.nest_syntax.specs.NestTerms.{indexed}
use Rattle.statement_trail.specs.NestParts.{each_once, index_in, of_these, scalars_in}
use Rattle.resolved_program.specs.Resolved.{term}
use Rattle.node_codegen.proofs.nest_terms.nest_term.Goals as goal

pub returns-clause-form : goal.returns-clause-form
returns-clause-form c =
    c.in_ok-form.ensures
    ∙ ap (λ l. index_form (indexed (index_in l 0) (term c.args.t.now)))
    (c.deref-5.ensures.value ∙ c.in_ok-axes.ensures ∙ (λ i. c.deref-3.ensures.value i ++ (c.deref-4.ensures.value ∙ c.in_ok-names.ensures ∙ ap (λ l. each_once (of_these l (scalars_in (term c.args.t.now)))) c.deref.ensures.value) i))
