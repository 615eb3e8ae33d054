use Rattle.std.proofs.Common.{◌∙◌, ◌<◌, ap, length, rules}
use Rattle.visited_objects.specs.Visits.{in_row}
use Rattle.visited_objects.proofs.Rows.{row_touched}
use Rattle.visited_objects.proofs.visits.Row.touch.Goals as goal

pub returns : goal.returns
returns c =
    let lt : c.args.place < length c.self.inside.visits.items = search rules in
    row_touched c.args.iteration c.args.writes c.self.inside.visits.items c.args.place c.index.result.now c.touched_by.result (in_row c.args.self.now) lt c.index.ensures c.touched_by.ensures
    (ap in_row c.self.view_is ∙ c.reach.ensures.same)
