use Rattle.part_visits.proofs.visitor.Visitor.owned_if_named.Goals as goal

pub is_inside-requires-clause-along : goal.is_inside-requires-clause-along
is_inside-requires-clause-along c = let laid = c.requires.lies.1 in record { rank = laid.rank; axes = laid.axes }
