use Rattle.std.proofs.Common.{◌++◌, map, ap, ◌∙◌}
use Rattle.resolved_program.specs.Resolved.{section_assignment}
use Rattle.program_plan.proofs.Assigned.{section_added}
use Rattle.resolved_program.proofs.Made.{one_more}
use Rattle.program_plan.proofs.assignments.add_section_assignment.Goals as goal

pub returns-in-Section : goal.returns-in-Section
returns-in-Section c =
    one_more section_assignment c.args.assignments.now.items c.push.new.self.items _ c.in_ok-push-in-Section.ensures.items
    ∙ ap (λ l. map section_assignment c.args.assignments.now.items ++ l)
    (section_added c.args.names.now c.args.stmt.now.line c.args.stmt.now.what c.in-Assign.left c.in-Assign.right c.in_ok-left.left c.in_ok-right.right c.in-Section.array c.in-Section.subscripts
    c.in-Assign.is c.in-Section.is c.in_ok-left.ensures c.in_ok-right.ensures)
