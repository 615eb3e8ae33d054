use Rattle.std.proofs.Common.{◌≡◌, List, All, subst, rules}
use Rattle.std.specs.Arc.{arc_value}
use Rattle.machine_steps.specs.Layout.{Layout}
use Rattle.code_meaning.specs.ProgramText.{Text}
use Rattle.node_program.specs.Fits.{FitsRows}
use Rattle.node_program.specs.Programs.{mappings_of}
use Rattle.node_program.specs.declared.program.NodeProgram.{NodeProgram}
use Rattle.whole_machine.proofs.Places.{all-for}
use Rattle.whole_machine.proofs.machine.WholeMachine.program.Goals as goal

pub returns-clause-nodes : goal.returns-clause-nodes
returns-clause-nodes c =
    let p = arc_value c.self.inside.program in
    let given : p ≡ c.deref.result.now = search rules in
    subst (λ (q : NodeProgram). All (λ (t : Text). t.nodes ≡ q.nodes) c.args.self.now.code) given
    (subst (λ (code : List Text). All (λ (t : Text). t.nodes ≡ p.nodes) code) (λ i. (c.self.view_is i).code) (all-for p.nodes (mappings_of p.tables.items) p.shapes.items p.code.items))

pub returns-clause-fits : goal.returns-clause-fits
returns-clause-fits c =
    let p = arc_value c.self.inside.program in
    let given : p ≡ c.deref.result.now = search rules in
    subst (λ q. FitsRows q c.args.self.now.layouts) given (subst (λ (layouts : List Layout). FitsRows p layouts) (λ i. (c.self.view_is i).layouts) c.self.invariant.fits)
