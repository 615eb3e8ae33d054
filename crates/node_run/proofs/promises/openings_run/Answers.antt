use Rattle.node_run.proofs.Openings.{openings-run}
use Rattle.node_run.proofs.promises.openings_run.Goals as goal

pub returns : goal.returns
returns g c faults meaning count made shapes m some none first valid whole over = openings-run faults meaning count made shapes m some none first valid whole over
