use Rattle.round_color.proofs.Whole.{is-colored}
use Rattle.round_color.proofs.promises.law_of_coloring.Goals as goal

pub returns : goal.returns
returns c = is-colored
