use Rattle.std.proofs.Common.{ap}
use Rattle.pair_mailbox.specs.declared.rule.View.{View}
use Rattle.pair_mailbox.proofs.Steps.{opens, parts}
use Rattle.pair_mailbox.proofs.mailbox.split_ends.Goals as goal

pub another-idle-requires-clause-rule : goal.another-idle-requires-clause-rule
another-idle-requires-clause-rule g c = opens _ _ _ c.requires.pass.1

pub another-taker-requires-clause-rule : goal.another-taker-requires-clause-rule
another-taker-requires-clause-rule g c = parts _ _ (ap (λ (y : View). y.sends) c.another-idle.ensures.rule.0) (ap (λ (y : View). y.takes) c.another-idle.ensures.rule.0)
