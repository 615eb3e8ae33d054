-- Of private clauses.
-- What contracts see of the values on a node.
use Rattle.part_steps.specs.declared.gathered.Gathered.{Gathered}
use Rattle.part_steps.specs.After.{After}
use Rattle.part_steps.specs.Views.{part_view}

abbrev pub after_of : Gathered → After
after_of g = record { part = part_view g.part.now; id = g.id; pieces = g.pieces.now; received = g.received.now }
