use Rattle.std.proofs.Common.{sym, ap, ◌∙◌}
use Rattle.array_meaning.specs.Resolution.{assignment}
use Rattle.resolved_program.specs.Resolved.{term}
use Rattle.resolved_program.proofs.Rows.{element_vec, section_vec}
use Rattle.program_plan.proofs.assignments.assignment_of.Goals as goal

pub returns-in-Element : goal.returns-in-Element
returns-in-Element c =
    ap (λ l. assignment l (term c.args.right)) (sym (element_vec c.in-Element.a c.in-Element.subscripts) ∙ ap term (sym c.in-Element.is))

pub returns-in-Section : goal.returns-in-Section
returns-in-Section c =
    ap (λ l. assignment l (term c.args.right)) (sym (section_vec c.in-Section.a c.in-Section.subscripts) ∙ ap term (sym c.in-Section.is))
