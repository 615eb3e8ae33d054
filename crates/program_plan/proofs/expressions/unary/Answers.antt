use Rattle.std.proofs.Common.{ap, ◌∙◌}
use Rattle.array_meaning.specs.Terms.{Apply}
use Rattle.resolved_program.specs.Resolved.{terms_of}
use Rattle.resolved_program.proofs.Rows.{apply_vec}
use Rattle.program_plan.proofs.expressions.unary.Goals as goal

pub returns : goal.returns
returns c = apply_vec c.args.op c.in_ok-vec.field-0 ∙ ap (λ l. Apply c.args.op (terms_of l)) c.in_ok-vec.ensures.items
