use Rattle.std.specs.Arc.{arc_value}
use Rattle.hpf_base.proofs.Ranges.{map-range_push}
use Rattle.machine_steps.specs.Agrees.{first_own, standing}
use Rattle.node_program.specs.Openings.{opening_machine}
use Rattle.node_program.specs.Programs.{code_of}
use Rattle.distributed_run.proofs.openings.openings.Goals as goal

pub loop-id-preserved : goal.loop-id-preserved
loop-id-preserved c =
    map-range_push
    (standing c.args.owners.now.nodes (opening_machine (code_of (arc_value c.args.program.now)) c.args.slots.now c.args.owners.now.layouts c.args.values.now) 1
    (first_own c.args.owners.now.nodes))
    c.loop-id.first.items c.push.new.self.items c.in_ok-opening.field-0 c.loop-id.id c.in_ok-push.ensures.items c.loop-id.invariant c.in_ok-opening.ensures
