use Rattle.lowering.proofs.Validity.{code-valid}
use Rattle.lowering.proofs.promises.code_is_valid.Goals as goal

pub returns : goal.returns
returns c = λ count n shapes table moves body few dealt same blocks moving ok. code-valid count n shapes table moves few dealt same blocks moving body ok
