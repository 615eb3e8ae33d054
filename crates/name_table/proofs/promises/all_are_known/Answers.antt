use Rattle.name_table.proofs.KnownTables.{all_known}
use Rattle.name_table.proofs.promises.all_are_known.Goals as goal

pub returns : goal.returns
returns c = all_known
