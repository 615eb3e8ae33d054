use Rattle.node_run.proofs.WholeRuns.{steps-pass}
use Rattle.node_run.proofs.promises.nodes_pass.Goals as goal

pub returns : goal.returns
returns g c faults meaning count made n shapes m own some agree valid whole = steps-pass faults meaning count shapes some made n m own agree valid whole
