use Rattle.std.proofs.Common.{arith}
use Rattle.nest_machine.proofs.Bodies.{body-runs}
use Rattle.nest_machine.proofs.promises.bodies_run.Goals as goal

pub returns : goal.returns
returns g c meaning code is_quiet joined line printed texts counting size layout stored is_index body guard k b pc s d right has room takes hidden =
    body-runs meaning code is_quiet joined line printed texts counting right is_index b hidden size layout stored body guard k b pc s d has room takes (omega arith)
