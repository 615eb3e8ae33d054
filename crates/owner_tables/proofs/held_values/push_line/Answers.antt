use Rattle.std.proofs.Common.{◌++◌, ◌∙◌, ap, arith}
use Rattle.owner_tables.proofs.LineLaws.{values-part}
use Rattle.owner_tables.proofs.held_values.push_line.Goals as goal

pub returns-in_ok-extend_from_slice : goal.returns-in_ok-extend_from_slice
returns-in_ok-extend_from_slice c =
    let line = c.args.line in
    c.in_ok-extend_from_slice.ensures.items
    ∙ ap (λ l. c.args.values.now.items ++ l)
    (values-part c.args.piece.now line.first line.step line.count _ c.if-line-eq1.true c.if-line-piece.true c.if-line-piece-2.true (omega arith))
