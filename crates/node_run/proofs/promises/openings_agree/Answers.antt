use Rattle.node_run.proofs.Openings.{opening-agree}
use Rattle.node_run.proofs.promises.openings_agree.Goals as goal

pub returns : goal.returns
returns g c faults meaning count m none first = opening-agree faults meaning count m none first
