use Rattle.std.proofs.Common.{length, sym, ◌∙◌, ap}
use Rattle.remap_steps.specs.Redistributions.{Redistribution}
use Rattle.node_program.specs.Fits.{shapes_of}
use Rattle.node_program.proofs.FitLaws.{remapped-shapes}
use Rattle.node_machine.proofs.RemapSteps.{moved-many}
use Rattle.node_machine.proofs.node.Node.rows_after.Goals as goal

pub returns-clause-many : goal.returns-clause-many
returns-clause-many c =
    let a = c.args.self.now in
    ap length c.in_ok-pieces.ensures ∙ moved-many _ a c.args.moving.now _ _ c.requires ∙ ap length (sym (ap (λ o. o.layouts) (c.in_ok-owners.ensures ∙ c.after.ensures)))

pub returns-clause-shapes : goal.returns-clause-shapes
returns-clause-shapes c =
    ap (λ o. shapes_of o.layouts) (c.in_ok-owners.ensures ∙ c.after.ensures) ∙ ap (λ (r : Redistribution). shapes_of r.new) c.requires.moving
    ∙ remapped-shapes c.requires.new c.args.self.now.layouts
