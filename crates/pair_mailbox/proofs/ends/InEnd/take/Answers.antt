use Rattle.std.proofs.Common.{ap}
use Rattle.pair_mailbox.specs.declared.rule.View.{View}
use Rattle.pair_mailbox.proofs.Steps.{pops}
use Rattle.pair_mailbox.proofs.ends.InEnd.take.Goals as goal

pub pop_as-requires-clause-rule : goal.pop_as-requires-clause-rule
pop_as-requires-clause-rule g c = (pops _ _ (ap (λ (v : View). v.takes) c.self.invariant.2), λ items views h at. tt)
