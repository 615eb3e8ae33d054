use Rattle.statement_reader.proofs.Spelled.{one_form}
use Rattle.statement_reader.proofs.promises.one_form.Goals as goal

pub returns : goal.returns
returns c = one_form
