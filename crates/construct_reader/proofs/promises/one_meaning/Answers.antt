use Rattle.construct_reader.proofs.Meanings.{meant_is}
use Rattle.construct_reader.proofs.promises.one_meaning.Goals as goal

pub returns : goal.returns
returns c = meant_is
