use Rattle.std.proofs.Common.{◌≡◌, ℕ, List, All, sym, subst}
use Rattle.std.specs.Arc.{arc_value}
use Rattle.code_meaning.specs.ProgramText.{Text, texts}
use Rattle.node_code.specs.Texts.{instructions}
use Rattle.node_program.specs.Programs.{mappings_of}
use Rattle.whole_machine.proofs.Places.{all-for}
use Rattle.whole_machine.proofs.machine.WholeMachine.owners.Goals as goal

pub returns-clause-nodes : goal.returns-clause-nodes
returns-clause-nodes c =
    let p = arc_value c.self.inside.program in
    subst (λ (code : List Text). All (λ (t : Text). t.nodes ≡ c.self.inside.owners.nodes) code) (λ i. (c.self.view_is i).code)
    (subst (λ (n : ℕ). All (λ (t : Text). t.nodes ≡ n) (texts p.nodes (mappings_of p.tables.items) p.shapes.items (instructions p.code.items))) (sym c.self.invariant.nodes)
    (all-for p.nodes (mappings_of p.tables.items) p.shapes.items p.code.items))
