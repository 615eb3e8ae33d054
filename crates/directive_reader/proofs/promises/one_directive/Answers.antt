use Rattle.directive_reader.proofs.Verdicts.{one_directive}
use Rattle.directive_reader.proofs.promises.one_directive.Goals as goal

pub returns : goal.returns
returns c = one_directive
