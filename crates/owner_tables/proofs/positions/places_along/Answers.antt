use Rattle.std.proofs.Common.{◌∙◌}
use Rattle.hpf_base.specs.Grid.{node_coordinates}
use Rattle.owner_tables.proofs.PositionLaws.{whole-along}
use Rattle.owner_tables.proofs.positions.places_along.Goals as goal

pub returns-in_ok-numbers_below-in-None : goal.returns-in_ok-numbers_below-in-None
returns-in_ok-numbers_below-in-None c =
    c.in_ok-numbers_below-in-None.ensures
    ∙ whole-along c.args.axis.now (node_coordinates c.args.grid.now c.args.node) c.args.extent c.args.lower c.in-None.is
