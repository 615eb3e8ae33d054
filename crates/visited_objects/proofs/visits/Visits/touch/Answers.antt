use Rattle.std.proofs.Common.{◌∙◌, ◌<◌, ap, length, rules}
use Rattle.visited_objects.specs.Visits.{visits_of}
use Rattle.visited_objects.proofs.Rows.{rows_touched}
use Rattle.visited_objects.proofs.visits.Visits.touch.Goals as goal

pub returns : goal.returns
returns c =
    let lt : c.args.name < length c.self.inside.rows.items = search rules in
    rows_touched c.args.iteration record { name = c.args.name; place = c.args.place; writes = c.args.writes } c.self.inside.rows.items c.index_mut.result.now c.touch.new.self (visits_of c.args.self.now) lt
    c.index_mut.ensures.value c.in_ok-touch.ensures (ap visits_of c.self.view_is ∙ c.reach.ensures.same)
