use Rattle.std.proofs.Common.{length, ◌∙◌, ap}
use Rattle.node_machine.proofs.StoredPieces.{stored-length}
use Rattle.node_machine.proofs.node.Node.put_stores.Goals as goal

pub invariant_of-self : goal.invariant_of-self
invariant_of-self c = record {
  one = c.self.invariant.one;
  few = c.self.invariant.few;
  owners = c.self.invariant.owners;
  pieces = ap length c.apply.ensures ∙ stored-length c.args.stores.now c.self.inside.pieces.items ∙ c.self.invariant.pieces;
  next_to = c.self.invariant.next_to;
  next_from = c.self.invariant.next_from;
  fits = c.self.invariant.fits;
  exchanges = c.self.invariant.exchanges;
}
