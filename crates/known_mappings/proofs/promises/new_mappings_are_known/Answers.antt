use Rattle.known_mappings.proofs.Known.{moves_known}
use Rattle.known_mappings.proofs.promises.new_mappings_are_known.Goals as goal

pub returns : goal.returns
returns c = λ grid p is rules none. moves_known grid p (c.all_are_known.ensures p) is rules none
