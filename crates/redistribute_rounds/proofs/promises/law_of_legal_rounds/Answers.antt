use Rattle.redistribute_rounds.proofs.Legal.{colors-legal}
use Rattle.redistribute_rounds.proofs.promises.law_of_legal_rounds.Goals as goal

pub returns : goal.returns
returns c = colors-legal
