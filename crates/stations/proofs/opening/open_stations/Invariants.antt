use Rattle.std.proofs.Common.{◌≡◌, ◌++◌, length}
use Rattle.stations.proofs.Opened.{AreOpened}
use Rattle.stations.proofs.opening.open_stations.Given as goal

abbrev pub invariant-loop-node : goal.invariant-loop-node
invariant-loop-node g l = AreOpened (length l.fn.nodes.items) l.yielded l.outs.rest.items l.ins.rest.items l.stations.items × (l.id ≡ length l.yielded)
    × (l.fn.nodes.items ≡ l.yielded ++ l.node-iterator.rest.items)
