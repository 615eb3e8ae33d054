use Rattle.std.proofs.Common.{sym, ◌∙◌, ap}
use Rattle.machine_steps.specs.Machine.{step_by}
use Rattle.node_code.specs.Texts.{instruction}
use Rattle.node_program.specs.Programs.{mappings_of}
use Rattle.slot_values.specs.LocalInstructions.{local_control}
use Rattle.whole_machine.specs.Views.{machine_of}
use Rattle.whole_machine.proofs.Places.{local-is}
use Rattle.whole_machine.proofs.machine.WholeMachine.run_local.Goals as goal

pub returns-clause-ok : goal.returns-clause-ok
returns-clause-ok c =
    let p = c.args.program.now in
    let i = instruction c.args.i.now in
    let m = machine_of c.self.inside in
    rw (← c.self.view_is) (ap (λ x. record m { control = x; substep = 0 }) (c.in_ok-run_local.ensures.done ∙ ap (λ s. local_control s i m.control) c.deref.ensures.value)
    ∙ ap (λ x. step_by x m) (sym (local-is p.nodes (mappings_of p.tables.items) p.shapes.items i c.requires.local)))
