use Rattle.std.proofs.Common.{reverse, sym, ap, ◌∙◌}
use Rattle.array_meaning.specs.Resolution.{whole}
use Rattle.node_code.specs.Texts.{sub, subs}
use Rattle.resolved_program.specs.Resolved.{transformation}
use Rattle.program_code.specs.ExpressionCode.{subs_of}
use Rattle.program_code.specs.StatementCode.{in_order}
use Rattle.node_codegen.proofs.Bounds.{map_reverse}
use Rattle.node_codegen.proofs.transformations.over_in_order.Goals as goal

pub returns-in-Transposition : goal.returns-in-Transposition
returns-in-Transposition c =
    ap subs c.reverse.ensures.items
    ∙ map_reverse sub c.in_ok-over.over.items
    ∙ ap reverse c.in_ok-over.ensures
    ∙ ap (λ h. in_order (transformation h) (subs_of c.args.b (whole c.args.dims.now))) (sym c.in-Transposition.is)
