use Rattle.std.proofs.Common.{◌*◌, ap, get_or}
use Rattle.hpf_base.specs.Grid.{node_coordinates}
use Rattle.hpf_base.proofs.Ranges.{map-range_push}
use Rattle.local_address.specs.Runs.{own_on}
use Rattle.owner_tables.proofs.columns.next_strides.Goals as goal

pub loop-node-preserved : goal.loop-node-preserved
loop-node-preserved c =
    let strides = c.args.strides.now in
    let counts = c.args.counts.now in
    map-range_push (λ node. get_or strides node 0 * get_or counts (own_on (node_coordinates c.args.grid.now node) c.args.axis.now) 0) c.loop-node.next.items
    c.push.new.self.items (get_or strides c.loop-node.node 0 * get_or counts c.own_on-own.result 0) c.loop-node.node c.in_ok-push.ensures.items c.loop-node.invariant
    (ap (λ own. get_or strides c.loop-node.node 0 * get_or counts own 0) c.own_on-own.ensures.value)
