use Rattle.nest_machine.proofs.KeptFaults.{faults, no_left}
use Rattle.nest_machine.proofs.Examples.{copies, act, number, runs}
use Rattle.nest_machine.proofs.example.example_runs.Goals as goal

pub returns : goal.returns
returns c =
    runs (c.least_of_parts.ensures.none (faults act copies 2 number) (no_left act copies 2 number) copies 2 number)
    (c.least_of_parts.ensures.least (faults act copies 2 number) (no_left act copies 2 number) copies 2 number)
