use Rattle.machine_steps.specs.Message.{needs}
use Rattle.node_run.proofs.Reading.{value-known}
use Rattle.node_run.proofs.promises.message_read.Goals as goal

pub returns : goal.returns
returns g c count shapes m part q received whole sent s need = value-known count m.layouts m.rows whole.shaped whole.owned (needs part q) q received sent s need
