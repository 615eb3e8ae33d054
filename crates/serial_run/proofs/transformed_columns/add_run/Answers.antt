use Rattle.std.proofs.Common.{◌≡◌, ◌+◌, ◌-◌, ◌++◌, take, drop, sym, ap, ◌∙◌, arith}
use Rattle.serial_run.proofs.TransformedColumns.{elements_run}
use Rattle.serial_run.proofs.transformed_columns.add_run.Goals as goal

pub returns-then-first-count : goal.returns-then-first-count
returns-then-first-count c =
    let many : c.args.first + c.args.count - c.args.first ≡ c.args.count = omega arith in
    c.in_ok-extend_from_slice.ensures.items
    ∙ ap (λ n. c.args.values.now.items ++ take n (drop c.args.first c.args.elements.now)) many
    ∙ ap (λ l. c.args.values.now.items ++ l) (sym (elements_run c.args.elements.now c.args.first c.args.count c.if-first-count.true))
