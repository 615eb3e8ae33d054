use Rattle.std.proofs.Common.{◌≡◌, ◌∙◌, ◌≤◌, ap, sym, subst, length, rules}
use Rattle.visited_objects.specs.Visits.{in_row}
use Rattle.visited_objects.proofs.Rows.{row_resized, row_pushed}
use Rattle.visited_objects.proofs.visits.Row.reach.Goals as goal

pub returns-in_err-push-clause-same : goal.returns-in_err-push-clause-same
returns-in_err-push-clause-same c =
    let le : length c.self.inside.visits.items ≤ c.args.place = search rules in
    let same = c.self-2.view_is ∙ c.make_room.ensures in
    row_resized c.self-2.inside.visits.items c.push.new.self.items c.args.place _ (subst (λ row. length row ≤ c.args.place) (c.self.view_is ∙ sym same) le) (c.in_err-push.ensures.items ∙ c.in_ok-resize.ensures.items)
    ∙ ap in_row same

pub returns-clause-same : goal.returns-clause-same
returns-clause-same c =
    let le : length c.self.inside.visits.items ≤ c.args.place = search rules in
    let same = c.self-2.view_is ∙ c.make_room.ensures in
    row_pushed c.resize.new.self.items c.push.new.self.items c.in_ok-push.ensures.items
    ∙ row_resized c.self-2.inside.visits.items c.resize.new.self.items c.args.place _ (subst (λ row. length row ≤ c.args.place) (c.self.view_is ∙ sym same) le) c.in_ok-resize.ensures.items
    ∙ ap in_row same
