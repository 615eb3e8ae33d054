use Rattle.node_run.proofs.WholeRuns.{instr-passes}
use Rattle.node_run.proofs.promises.nodes_step.Goals as goal

pub returns : goal.returns
returns g c faults meaning count n shapes m own instr some running agree whole valid e = (instr-passes faults meaning count shapes some instr n m own running agree whole valid e).segment
