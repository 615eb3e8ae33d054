use Rattle.std.proofs.Common.{◌+◌, ◌%◌}
use Rattle.node_machine.proofs.PostLaws.{rest-below}
use Rattle.node_machine.proofs.post.Post.take.Goals as goal

pub invariant_of-self : goal.invariant_of-self
invariant_of-self c = (
  c.self.invariant.0,
  rest-below (λ s. s) c.self.inside.inbox.items c.pop_front.new.self.items c.in-Some.source c.self.inside.next_from.items c.in-Some.source ((c.index.result.now + 1) % 18446744073709551616) c.in-Some.ensures.items c.self.invariant.1,
)
