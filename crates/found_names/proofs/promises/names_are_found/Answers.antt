use Rattle.found_names.proofs.Programs.{all_found}
use Rattle.found_names.proofs.promises.names_are_found.Goals as goal

pub returns : goal.returns
returns c = all_found
