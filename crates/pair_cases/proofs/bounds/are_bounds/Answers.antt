use Rattle.std.proofs.Common.{All, subst}
use Rattle.std.proofs.lemmas.List.{take_all}
use Rattle.std.proofs.lemmas.List.Elements.{All-more}
use Rattle.expression_rules.specs.Dims.{IsDim}
use Rattle.pair_cases.proofs.bounds.are_bounds.Goals as goal

pub loop-dim-preserved : goal.loop-dim-preserved
loop-dim-preserved c =
    All-more IsDim c.args.dims.now c.loop-dim.dim-index _ c.loop-dim-test.true c.loop-dim.invariant (c.is_dim.ensures c.if-not-is_dim.false)

pub returns : goal.returns
returns c t = subst (All IsDim) (take_all c.loop-dim.dim-index c.args.dims.now c.loop-dim-test.false) c.loop-dim.invariant
