use Rattle.covering_rounds.proofs.OneLetter.{one-sent, one-taken}
use Rattle.covering_rounds.proofs.promises.one_letter_a_round.Goals as goal

pub returns-clause-sent : goal.returns-clause-sent
returns-clause-sent c nodes new layouts k p q r h g = one-sent nodes new layouts k p q r h g

pub returns-clause-taken : goal.returns-clause-taken
returns-clause-taken c nodes new layouts k p q r h g = one-taken nodes new layouts k p q r h g
