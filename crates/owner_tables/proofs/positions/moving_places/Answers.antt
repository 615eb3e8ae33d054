use Rattle.std.proofs.Common.{◌<◌, All, sym, subst, arith}
use Rattle.gap_table.specs.GapTable.{places_of}
use Rattle.owner_tables.proofs.PositionLaws.{filter-below}
use Rattle.owner_tables.proofs.positions.moving_places.Goals as goal

pub listed-requires : goal.listed-requires
listed-requires c = λ k d within.
    let below : All (λ place. place < c.args.extent) (places_of c.in_ok-table.table) =
    subst (All (λ place. place < c.args.extent)) (sym c.in_ok-table.ensures)
    (filter-below _ c.args.extent) in
    omega (arith, below k d within, c.requires.extent)
