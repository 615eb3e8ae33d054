use Rattle.std.proofs.Common.{◌≡◌, sym, subst, rules}
use Rattle.std.specs.Arc.{arc_value}
use Rattle.node_program.specs.Fits.{FitsRows, shapes_of}
use Rattle.node_program.specs.Programs.{code_of}
use Rattle.node_machine.specs.Steps.{IsStepAt, StepFits}
use Rattle.node_machine.proofs.node.Node.step.Goals as goal

pub returns-clause-is : goal.returns-clause-is
returns-clause-is c =
    let k = c.self.inside in
    let same : arc_value k.program ≡ c.deref.result.now = search rules in
    subst (λ a. IsStepAt a.code a.control.at a.nodes a.substep c.step_at.result) c.self.view_is
    (subst (λ p. IsStepAt (code_of p) k.control.at p.nodes k.substep c.step_at.result) (sym same) c.step_at.ensures.is)

pub returns-clause-fits : goal.returns-clause-fits
returns-clause-fits c =
    let k = c.self.inside in
    let same : arc_value k.program ≡ c.deref.result.now = search rules in
    let fits = subst (λ p. FitsRows p k.owners.layouts) same c.self.invariant.fits in
    subst (λ a. StepFits a.nodes (shapes_of a.layouts) c.step_at.result) c.self.view_is
    (subst (λ p. StepFits p.nodes (shapes_of k.owners.layouts) c.step_at.result) (sym same) (c.step_at.ensures.fits (shapes_of k.owners.layouts) fits.nodes fits.code))
