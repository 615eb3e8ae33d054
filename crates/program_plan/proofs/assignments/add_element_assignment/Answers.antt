use Rattle.std.proofs.Common.{◌++◌, map, ap, ◌∙◌}
use Rattle.resolved_program.specs.Resolved.{element_assignment}
use Rattle.program_plan.proofs.Assigned.{element_added}
use Rattle.resolved_program.proofs.Made.{one_more}
use Rattle.program_plan.proofs.assignments.add_element_assignment.Goals as goal

pub returns-in-Element : goal.returns-in-Element
returns-in-Element c =
    one_more element_assignment c.args.assignments.now.items c.push.new.self.items _ c.in_ok-push-in-Element.ensures.items
    ∙ ap (λ l. map element_assignment c.args.assignments.now.items ++ l)
    (element_added c.args.names.now c.args.indices.now c.args.stmt.now.line c.args.stmt.now.what c.in-Assign.left c.in-Assign.right c.in_ok-left.left c.in_ok-right.right c.in-Element.array c.in-Element.subscripts
    c.in-Assign.is c.in-Element.is c.in_ok-left.ensures c.in_ok-right.ensures)
