use Rattle.redistribute_rounds.proofs.Full.{colors-full}
use Rattle.redistribute_rounds.proofs.promises.law_of_full_rounds.Goals as goal

pub returns : goal.returns
returns c = colors-full
