use Rattle.courses.proofs.Tables.{table}
use Rattle.courses.proofs.promises.axis_table.Goals as goal

pub returns : goal.returns
returns c = table
