use Rattle.std.proofs.Common.{drop, ap, ◌∙◌, arith}
use Rattle.alignment_rules.specs.AlignmentValues.{first_dim}
use Rattle.alignment_rules.proofs.TargetLists.{values_next}
use Rattle.alignment_rules.proofs.target_parts.listed_values.Goals as goal

pub loop-target-preserved : goal.loop-target-preserved
loop-target-preserved c = (
  omega (arith, c.loop-target.invariant.0),
  values_next c.args.setting.now c.args.dummies.now c.args.bounds.now c.args.targets.now c.loop-target.target-index c.target-item.result c.dim_from-dim.result
      c.loop-target.values.items c.push_value.new.values.items _ c.loop-target-test.true c.target-item.is
      (c.dim_from-dim.ensures ∙ ap (λ n. first_dim (drop n c.args.bounds.now)) c.loop-target.invariant.0) c.in_ok-push_value.ensures c.loop-target.invariant.1,
)
