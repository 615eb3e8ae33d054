use Rattle.std.proofs.Common.{◌≡◌, [], ◌∷◌, ◌++◌, Some, slice_get, ◌∙◌, ap}
use Rattle.message_lines.proofs.RowLaws.{take-none, take-row}
use Rattle.message_lines.proofs.rows.push_shared.Goals as goal

pub returns-in_ok-push : goal.returns-in_ok-push
returns-in_ok-push c =
    let layouts = c.args.owners.now.layouts in
    let row = c.args.row in
    let table = ap (λ t. t.layout) c.in_ok-shared.ensures in
    let is : Some c.in-Some.table.now.layout ≡ slice_get layouts row = c.in-Some.ensures.layout in
    c.in_ok-push.ensures.row
    ∙ (λ i. record { layouts = ((λ j. c.requires.so_far j ++ table j ∷ []) ∙ take-row layouts row c.in-Some.table.now.layout is) i; nodes = c.requires.nodes i })

pub returns-in_default : goal.returns-in_default
returns-in_default c =
    let layouts = c.args.owners.now.layouts in
    (λ i. record { layouts = (c.requires.so_far ∙ take-none layouts c.args.row c.in_default.ensures.layout) i; nodes = c.requires.nodes i })
