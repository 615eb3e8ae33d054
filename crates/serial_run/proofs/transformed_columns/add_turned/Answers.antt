use Rattle.std.proofs.Common.{◌≡◌, ◌+◌, ◌*◌, ◌-◌, ◌++◌, OnOk, append_assoc, ap, ◌∙◌, subst}
use Rattle.serial_run.specs.TransformedValues.{elements_at}
use Rattle.serial_run.proofs.TransformedColumns.{turned_column}
use Rattle.serial_run.proofs.transformed_columns.add_turned.Goals as goal

pub returns : goal.returns
returns c =
    let xs = c.args.elements.now in
    let first = c.args.column * c.args.n in
    let others = elements_at xs (λ t. t) first c.args.turn in
    subst (λ l. OnOk c.add_run-2.result (c.add_run-2.new.values.items ≡ l))
    (ap (λ l. l ++ others) c.in_ok-add_run.ensures
    ∙ append_assoc c.args.values.now.items (elements_at xs (λ t. t) (first + c.args.turn) (c.args.n - c.args.turn)) others
    ∙ ap (λ l. c.args.values.now.items ++ l) (turned_column xs c.args.n c.args.turn c.args.column c.requires.below))
    c.add_run-2.ensures
