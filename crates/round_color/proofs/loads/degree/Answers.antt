use Rattle.std.proofs.Common.{◌+◌, ◌-◌, map, ◌∙◌, arith}
use Rattle.round_color.specs.Coloring.{load}
use Rattle.round_color.specs.Table.{ends}
use Rattle.round_color.proofs.Tables.{greatest-next}
use Rattle.round_color.proofs.loads.degree.Goals as goal

pub loop-node-preserved : goal.loop-node-preserved
loop-node-preserved c =
    c.loop-node.invariant
    ∙ greatest-next (load (map ends c.args.edges.now)) c.loop-node.greatest c.loop-node.node (c.args.nodes - (c.loop-node.node + 1)) (c.args.nodes - c.loop-node.node)
    c.larger-greatest.result c.load.result (omega arith) c.load.ensures c.larger-greatest.ensures
