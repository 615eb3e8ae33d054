use Rattle.std.proofs.Common.{◌≡◌, ◌∙◌, ap, refl, subst, sym}
use Rattle.std.specs.Arc.{arc_value}
use Rattle.machine_steps.specs.Node.{Ready}
use Rattle.node_code.specs.Texts.{instructions}
use Rattle.slot_runs.specs.Runs.{AreRun}
use Rattle.slot_values.specs.Controls.{control_of}
use Rattle.node_program.specs.Programs.{mappings_of}
use Rattle.node_machine.specs.Views.{node_of}
use Rattle.node_machine.proofs.LocalRuns.{run-steps}
use Rattle.node_machine.proofs.node.Node.run_instructions.Goals as goal

pub returns : goal.returns
returns c =
    let p = arc_value c.self.inside.program in
    let code : c.deref.result.now ≡ p.code.items = c.deref.ensures.value ∙ ap (λ q. q.code.items) c.deref-program.ensures in
    let ran = subst (λ xs. AreRun (instructions xs) c.run_known.ensures.0 (control_of c.self.inside.control) (control_of c.run_known.new.c)) code c.run_known.ensures.1 in
    let stage = subst (λ a. a.stage ≡ Ready) (sym c.self.view_is) c.requires.stage in
    let substep = subst (λ a. a.substep ≡ 0) (sym c.self.view_is) c.requires.substep in
    rw (← c.self.view_is) (run-steps (mappings_of p.tables.items) p.shapes.items (instructions p.code.items) (node_of c.self.inside) refl stage substep c.run_known.ensures.0 (control_of c.run_known.new.c) ran)
