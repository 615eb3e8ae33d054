use Rattle.expr_reader.proofs.Theorem.{one_expression}
use Rattle.expr_reader.proofs.promises.one_expression.Goals as goal

pub returns : goal.returns
returns c = one_expression
