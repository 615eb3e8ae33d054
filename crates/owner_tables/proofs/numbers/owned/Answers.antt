use Rattle.std.proofs.Common.{get_or, if◌then◌else◌}
use Rattle.std.specs.List.{list_all}
use Rattle.hpf_base.specs.Grid.{node_coordinates}
use Rattle.hpf_base.proofs.Ranges.{map-range_push}
use Rattle.local_address.specs.Runs.{fixed_agrees}
use Rattle.owner_tables.proofs.numbers.owned.Goals as goal

pub loop-node-preserved : goal.loop-node-preserved
loop-node-preserved c =
    map-range_push
    (λ node. if list_all (fixed_agrees (node_coordinates c.args.mapping.now.grid node)) c.args.mapping.now.dims then get_or c.args.totals.now node 0 else 0)
    c.loop-node.owned.items c.push.new.self.items c.owned_of.result c.loop-node.node c.in_ok-push.ensures.items c.loop-node.invariant c.owned_of.ensures
