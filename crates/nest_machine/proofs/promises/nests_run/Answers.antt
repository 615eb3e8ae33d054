use Rattle.nest_order.specs.Nest.{nest_act}
use Rattle.nest_order.specs.Copies.{with_copies}
use Rattle.std.proofs.Common.{None}
use Rattle.nest_machine.specs.Trace.{trace}
use Rattle.nest_machine.specs.ItemsAt.{items_at}
use Rattle.nest_machine.proofs.KeptFaults.{faults, no_left}
use Rattle.nest_machine.proofs.PlacedActs.{act_number}
use Rattle.nest_machine.proofs.Nests.{nest-runs}
use Rattle.nest_machine.proofs.promises.nests_run.Goals as goal

pub returns : goal.returns
returns g c meaning code is_quiet joined line printed texts counting size layout stored row interpretation action_at condition_at body b pc n s d place is_row is_index alike finals kinds start
    right has room takes hidden mean fit one_place memory empty apart few alike_refl =
    let copies = with_copies kinds n start in
    let act = nest_act interpretation row (λ i. items_at counting action_at condition_at i body b s) in
    let number = act_number d.parts (trace texts counting size stored body None 0 b s) in
    nest-runs meaning code is_quiet joined line printed texts counting right size layout stored row interpretation action_at condition_at body b pc n s d place is_row is_index alike finals kinds
    start has room takes hidden mean fit one_place memory empty apart few alike_refl
    (c.least_of_parts.ensures.none (faults act copies n number) (no_left act copies n number) copies n number)
    (c.least_of_parts.ensures.least (faults act copies n number) (no_left act copies n number) copies n number)
