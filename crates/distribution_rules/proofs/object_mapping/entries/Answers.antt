use Rattle.std.proofs.Common.{◌<◌, subst}
use Rattle.distribution_rules.specs.DistributedSteps.{entry_list}
use Rattle.distribution_rules.proofs.DistributedTurns.{entries_next, next_few, taken_few}
use Rattle.distribution_rules.proofs.object_mapping.entries.Goals as goal

pub entry_on-requires-clause-procs : goal.entry_on-requires-clause-procs
entry_on-requires-clause-procs c = taken_few _ c.args.extents.now c.loop-place.grid_dim c.procs_for-procs.result c.procs_for-procs.ensures.value c.requires.grid

pub loop-place-preserved : goal.loop-place-preserved
loop-place-preserved c = (
  entries_next c.args.formats.now c.args.dims.now c.args.extents.now c.loop-place.place c.loop-place.grid_dim c.index-formats-place.result _ c.procs_for-procs.result c.in_ok-entry.entry
      (entry_list c.loop-place.entries) (entry_list c.in_ok-entries.entries) _ c.next_grid_dim-grid_dim.result
      c.loop-place-test.true (subst (λ n. c.loop-place.place < n) c.requires.rank c.loop-place-test.true) c.index-formats-place.is c.procs_for-procs.ensures.value
      c.in_ok-entry.ensures c.in_ok-entries.ensures c.next_grid_dim-grid_dim.ensures c.loop-place.invariant.0,
  next_few c.loop-place.grid_dim _ c.loop-place.place c.procs_for-procs.result c.next_grid_dim-grid_dim.ensures c.loop-place.invariant.1,
)
