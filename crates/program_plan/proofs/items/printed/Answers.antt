use Rattle.std.proofs.Common.{sym, ap, ◌∙◌}
use Rattle.array_meaning.specs.Resolution.{item}
use Rattle.resolved_program.specs.Resolved.{term}
use Rattle.resolved_program.proofs.Rows.{section_vec}
use Rattle.program_plan.proofs.items.printed.Goals as goal

pub returns-in-Section : goal.returns-in-Section
returns-in-Section c = ap item (sym (section_vec c.in-Section.a c.in-Section.subscripts) ∙ ap term (sym c.in-Section.is))
