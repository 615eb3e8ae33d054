use Rattle.node_run.proofs.WholeRuns.{steps-carry}
use Rattle.node_run.proofs.promises.phases_carried.Goals as goal

pub returns : goal.returns
returns g c faults meaning count made n shapes m own some agree valid whole = steps-carry faults meaning count shapes some made n m own agree valid whole
