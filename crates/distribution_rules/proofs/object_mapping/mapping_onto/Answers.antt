use Rattle.std.proofs.Common.{sym, ◌∙◌}
use Rattle.distribution_rules.proofs.ArrangementExtents.{is_grid}
use Rattle.distribution_rules.proofs.object_mapping.mapping_onto.Goals as goal

pub entries-requires-clause-grid : goal.entries-requires-clause-grid
entries-requires-clause-grid c = is_grid c.args.grid.now c.args.extents.now c.has_all_nodes.ensures.grid (sym c.has_all_nodes.ensures.value ∙ c.if-not-has_all_nodes.false)

pub grid_of-requires : goal.grid_of-requires
grid_of-requires c = is_grid c.args.grid.now c.args.extents.now c.has_all_nodes.ensures.grid (sym c.has_all_nodes.ensures.value ∙ c.if-not-has_all_nodes.false)
