use Rattle.std.proofs.Common.{◌+◌, ◌%◌}
use Rattle.node_machine.proofs.PostLaws.{rest-below}
use Rattle.node_machine.proofs.post.Post.send.Goals as goal

pub invariant_of-self : goal.invariant_of-self
invariant_of-self c = (
  rest-below (λ p. p.to) c.self.inside.outbox.items c.pop_front.new.self.items c.in-Some.parcel c.self.inside.next_to.items c.parcel.inside.to ((c.index-number.result.now + 1) % 18446744073709551616) c.in-Some.ensures.items c.self.invariant.0,
  c.self.invariant.1,
)
