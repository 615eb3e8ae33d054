use Rattle.std.proofs.Common.{◌==◌, pos, ◌+ℤ◌, of_z, to_z}
use Rattle.std.proofs.lemmas.Int.{to_z-of_z}
use Rattle.std.specs.Int.{w64}
use Rattle.hpf_base.specs.Grid.{node_coordinates}
use Rattle.local_address.specs.Runs.{coordinate_on, own_on}
use Rattle.local_address.proofs.OwnedLaws.{places-passing, subscripts-passing}
use Rattle.local_address.proofs.owned.OwnedSubscripts.new.Goals as goal

pub invariant_of-result : goal.invariant_of-result
invariant_of-result c =
    places-passing (λ place. coordinate_on c.args.axis.now (to_z w64 (of_z w64 c.args.lower) +ℤ pos place) == own_on (node_coordinates c.args.grid.now c.args.node.0) c.args.axis.now)
    c.args.lower (to_z w64 (of_z w64 c.args.lower)) c.args.extent
    _ (to_z-of_z w64 c.args.lower c.ranges.lower) c.requires.lower c.requires.extent c.in_ok-places.ensures

pub returns : goal.returns
returns c =
    subscripts-passing (λ i. coordinate_on c.args.axis.now i == own_on (node_coordinates c.args.grid.now c.args.node.0) c.args.axis.now)
    c.args.lower (to_z w64 (of_z w64 c.args.lower)) c.args.extent
    _ (to_z-of_z w64 c.args.lower c.ranges.lower) c.in_ok-places.ensures
