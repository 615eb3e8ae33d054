use Rattle.std.proofs.Common.{All, subst, sym}
use Rattle.std.proofs.lemmas.List.Elements.{All-push}
use Rattle.expression_rules.specs.Dims.{IsDim}
use Rattle.pair_messages.proofs.rows.dims_each.Goals as goal

pub loop-k-preserved : goal.loop-k-preserved
loop-k-preserved c = subst (All IsDim) (sym c.in_ok-push.ensures.items) (All-push IsDim c.loop-k.dims.items c.in-Some.dim c.loop-k.invariant c.in-Some.ensures)
