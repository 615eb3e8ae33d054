use Rattle.std.proofs.Common.{◌<◌, length, map, arith}
use Rattle.std.proofs.lemmas.List.{length-map}
use Rattle.storage.specs.Spots.{spot_of}
use Rattle.comm_sets.proofs.Arranging.{arranged-more}
use Rattle.comm_sets.proofs.messages.Messages.arrange.Goals as goal

pub loop-node-preserved : goal.loop-node-preserved
loop-node-preserved c =
    let rows = c.loop-node.self-inside.lists.items in
    let inside : c.loop-node.node < length rows =
    omega (arith, c.loop-node.invariant.nodes, c.len-node-end.ensures, length-map rows (λ v. map spot_of v.items), length-map c.self.inside.lists.items (λ v. map spot_of v.items)) in
    arranged-more (λ v. map spot_of v.items) (map (λ v. map spot_of v.items) c.self.inside.lists.items) rows c.loop-node.node c.index_mut.result.now c.arrange_list.new.list
    inside c.index_mut.ensures.value c.arrange_list.ensures.ascends c.arrange_list.ensures.among c.loop-node.invariant
