use Rattle.std.proofs.Common.{◌≤◌, arith, get_or}
use Rattle.hpf_base.specs.declared.limits.TheConstants.{MAX_NODES}
use Rattle.distribution_rules.proofs.ArrangementExtents.{few_nodes}
use Rattle.distribution_rules.proofs.object_mapping.grid_of.Goals as goal

pub overflow_cast-extent : goal.overflow_cast-extent
overflow_cast-extent c =
    let few : get_or c.args.extents.now c.loop-extent.extent-index 0 ≤ MAX_NODES =
    (few_nodes c.args.extents.now c.requires c.loop-extent.extent-index 0 c.loop-extent-test.true).1 in
    omega (arith, few)
