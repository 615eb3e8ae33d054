use Rattle.construct_reader.proofs.Same.{same_program}
use Rattle.construct_reader.proofs.promises.one_program.Goals as goal

pub returns : goal.returns
returns c = same_program
