use Rattle.std.proofs.Common.{◌≡◌, None, option_map, rules}
use Rattle.array_meaning.specs.Sections.{extents}
use Rattle.code_meaning.specs.Forms.{selections_in}
use Rattle.node_code.specs.Texts.{evaluation}
use Rattle.tuple_values.specs.Views.{statement}
use Rattle.tuple_values.proofs.OfInstructions.{evaluation_is}
use Rattle.tuple_values.proofs.statement.ParallelStatement.of_evaluation.Goals as goal

pub returns : goal.returns
returns c =
    let slots = c.args.slots.now in
    let p = evaluation c.args.p.now in
    let space = c.in_ok-space.space in
    let over : space.extents.items ≡ extents (selections_in slots p.over) = search rules in
    let indices : option_map (λ ds. ds.items) space.indices ≡ None = search rules in
    evaluation_is c.args.shapes.now slots p (statement c.evaluating.result) space.extents.items (option_map (λ ds. ds.items) space.indices) over c.args.copy c.evaluating.ensures indices
