use Rattle.std.proofs.Common.{refl}
use Rattle.directive_check.proofs.ChainLaws.{inside_next}
use Rattle.directive_check.proofs.chain_rules.are_inside.Goals as goal

pub loop-place-preserved : goal.loop-place-preserved
loop-place-preserved c =
    inside_next c.args.dims.now c.args.entries.now c.args.bounds.now c.loop-place.place _ c.loop-place.all c.is_inside-all.result _ c.dim_at-bound.result
    c.loop-place-test.true c.dim_at-bound.ensures c.is_inside-all.ensures refl c.loop-place.invariant
