use Rattle.std.proofs.Common.{◌≡◌, map}
use Rattle.std.specs.Arc.{arc_value}
use Rattle.std.specs.List.{range_with_len}
use Rattle.machine_steps.specs.Agrees.{first_own, standing}
use Rattle.node_program.specs.Openings.{opening_machine}
use Rattle.node_program.specs.Programs.{code_of}
use Rattle.distributed_run.proofs.openings.openings.Given as goal

abbrev pub invariant-loop-id : goal.invariant-loop-id
invariant-loop-id l =
    l.first.items ≡ map (standing l.owners.nodes (opening_machine (code_of (arc_value l.program)) l.slots l.owners.layouts l.values) 1 (first_own l.owners.nodes)) (range_with_len 0 l.id)
