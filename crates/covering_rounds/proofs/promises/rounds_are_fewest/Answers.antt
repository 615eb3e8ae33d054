use Rattle.covering_rounds.proofs.Fewest.{are-fewest, are-legal}
use Rattle.covering_rounds.proofs.promises.rounds_are_fewest.Goals as goal

pub returns-clause-legal : goal.returns-clause-legal
returns-clause-legal c = are-legal

pub returns-clause-fewest : goal.returns-clause-fewest
returns-clause-fewest c = are-fewest
