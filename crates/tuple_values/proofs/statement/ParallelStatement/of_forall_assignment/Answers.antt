use Rattle.std.proofs.Common.{◌≡◌, ◌∙◌, Some, option_map, rules}
use Rattle.array_meaning.specs.Sections.{extents}
use Rattle.code_meaning.specs.Forms.{selections_in}
use Rattle.node_code.specs.Texts.{assignment, subs}
use Rattle.tuple_values.specs.Statements.{ByIndices}
use Rattle.tuple_values.specs.Views.{statement}
use Rattle.tuple_values.proofs.OfInstructions.{assigning, forall_is}
use Rattle.tuple_values.proofs.statement.ParallelStatement.of_forall_assignment.Goals as goal

pub returns : goal.returns
returns c =
    let slots = c.args.slots.now in
    let p = assignment c.args.p.now in
    let space = c.in_ok-space.space in
    let over : space.extents.items ≡ extents (selections_in slots p.over) = search rules in
    let indices : option_map (λ ds. ds.items) space.indices ≡ Some (selections_in slots p.over) = search rules in
    let left : subs c.deref-2.result.now ≡ p.left = search rules in
    forall_is c.args.shapes.now slots p (statement c.assigning.result) space.extents.items (option_map (λ ds. ds.items) space.indices) over
    (c.assigning.ensures ∙ (λ i. assigning c.args.shapes.now slots p space.extents.items (option_map (λ ds. ds.items) space.indices) (ByIndices p.array (left i)))) indices
