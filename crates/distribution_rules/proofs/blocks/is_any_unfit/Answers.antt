use Rattle.std.proofs.Common.{◌<◌, subst}
use Rattle.distribution_rules.proofs.DistributedTurns.{any_next, next_few}
use Rattle.distribution_rules.proofs.blocks.is_any_unfit.Goals as goal

pub loop-place-preserved : goal.loop-place-preserved
loop-place-preserved c = (
  any_next c.args.formats.now c.args.dims.now c.args.extents.now c.loop-place.place c.loop-place.grid_dim c.index-formats-place.result _ c.procs_for-procs.result
      c.loop-place.unfit c.is_unfit_on-unfit.result _ c.next_grid_dim-grid_dim.result
      c.loop-place-test.true (subst (λ n. c.loop-place.place < n) c.requires.rank c.loop-place-test.true) c.index-formats-place.is c.procs_for-procs.ensures.value
      c.is_unfit_on-unfit.ensures c.next_grid_dim-grid_dim.ensures c.loop-place.invariant.0,
  next_few c.loop-place.grid_dim _ c.loop-place.place c.procs_for-procs.result c.next_grid_dim-grid_dim.ensures c.loop-place.invariant.1,
)
