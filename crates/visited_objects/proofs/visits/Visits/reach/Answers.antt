use Rattle.std.proofs.Common.{◌∙◌, ◌++◌, ◌∷◌, [], ap}
use Rattle.visited_objects.proofs.Rows.{rows_pushed}
use Rattle.visited_objects.proofs.visits.Visits.reach.Goals as goal

pub loop-alloc-preserved : goal.loop-alloc-preserved
loop-alloc-preserved c =
    rows_pushed c.loop-alloc.self-inside.rows.items c.push.new.self.items (c.in_ok-push.ensures.items ∙ ap (λ r. c.loop-alloc.self-inside.rows.items ++ r ∷ []) c.new.ensures)
    ∙ c.loop-alloc.invariant
