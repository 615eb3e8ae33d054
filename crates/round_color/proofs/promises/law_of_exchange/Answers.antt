use Rattle.round_color.proofs.Exchange.{exchanged}
use Rattle.round_color.proofs.promises.law_of_exchange.Goals as goal

pub returns : goal.returns
returns c = exchanged
