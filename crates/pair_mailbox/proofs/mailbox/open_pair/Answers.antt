use Rattle.pair_mailbox.proofs.Steps.{begins}
use Rattle.pair_mailbox.proofs.mailbox.open_pair.Goals as goal

pub ruled-requires-clause-rule : goal.ruled-requires-clause-rule
ruled-requires-clause-rule g c = begins
