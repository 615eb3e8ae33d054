use Rattle.std.proofs.Common.{◌++◌, [], ◌∷◌, ◌∙◌}
use Rattle.array_meaning.specs.Transformations.{transposed_place}
use Rattle.serial_run.proofs.TransformedColumns.{columns_more, crossed_column}
use Rattle.serial_run.proofs.transformed_columns.transposed_columns.Goals as goal

pub loop-column-preserved : goal.loop-column-preserved
loop-column-preserved c =
    let xs = c.args.elements.now in
    let place = transposed_place (c.args.m ∷ c.args.n ∷ []) in
    c.in_ok-add_steps.ensures
    ∙ (λ i. c.loop-column.invariant i ++ crossed_column xs c.args.m c.args.n c.loop-column.column i)
    ∙ columns_more xs place c.loop-column.column c.args.m
