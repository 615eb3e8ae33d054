use Rattle.node_run.proofs.WholeRuns.{nodes-run}
use Rattle.node_run.proofs.promises.nodes_run.Goals as goal

pub returns : goal.returns
returns g c faults meaning count made n shapes m own some agree valid whole over = nodes-run faults meaning count shapes some made n m own agree valid whole over
