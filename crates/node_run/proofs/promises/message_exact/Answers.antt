use Rattle.node_run.proofs.Messages.{message-exact, remap-message-exact}
use Rattle.node_run.proofs.promises.message_exact.Goals as goal

pub returns-clause-part : goal.returns-clause-part
returns-clause-part c count layouts part p q s = message-exact count layouts part p q s

pub returns-clause-remap : goal.returns-clause-remap
returns-clause-remap c count old later p q s = remap-message-exact count old later p q s
