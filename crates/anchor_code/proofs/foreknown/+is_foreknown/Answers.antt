use Rattle.std.proofs.Common.{ap, ◌∙◌}
use Rattle.resolved_program.proofs.Forms.{apply_is}
use Rattle.statement_trail.specs.Anchors.{is_foreknown}
use Rattle.anchor_code.proofs.foreknown.+is_foreknown.Goals as goal

pub is_foreknown-returns-in-Apply : goal.is_foreknown-returns-in-Apply
is_foreknown-returns-in-Apply t c =
    c.is_operation_foreknown.ensures
    ∙ ap is_foreknown (apply_is c.args.t.now _ c.in-Apply.operands c.deref.result.now c.in-Apply.is c.deref.ensures.value)
