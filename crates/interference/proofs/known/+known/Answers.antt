use Rattle.std.proofs.Common.{◌∙◌, ap, sym}
use Rattle.array_meaning.specs.Touches.{is_known}
use Rattle.resolved_program.specs.Resolved.{term}
use Rattle.resolved_program.proofs.Rows.{apply_vec}
use Rattle.interference.proofs.known.+known.Goals as goal

pub is_known-returns-in-Apply : goal.is_known-returns-in-Apply
is_known-returns-in-Apply t c =
    c.are_known.ensures ∙ sym (ap (λ t. is_known c.args.assigned.now (term t)) c.in-Apply.is ∙ ap (is_known c.args.assigned.now) (apply_vec c.in-Apply.field-0 c.in-Apply.operands))
