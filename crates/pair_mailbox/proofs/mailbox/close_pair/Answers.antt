use Rattle.std.proofs.Common.{ap}
use Rattle.pair_mailbox.specs.declared.rule.View.{View}
use Rattle.pair_mailbox.proofs.Steps.{closes}
use Rattle.pair_mailbox.proofs.mailbox.close_pair.Goals as goal

pub absorb-requires-clause-rule : goal.absorb-requires-clause-rule
absorb-requires-clause-rule g c = closes _ _ _ _ (ap (λ (v : View). v.sends) c.out.invariant.2) (ap (λ (v : View). v.takes) c.inn.invariant.2)
