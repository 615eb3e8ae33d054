use Rattle.strips.proofs.InOrder.{strip_each}
use Rattle.strips.proofs.promises.law_of_strips.Goals as goal

pub returns : goal.returns
returns c = strip_each
