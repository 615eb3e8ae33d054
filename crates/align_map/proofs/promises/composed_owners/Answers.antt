use Rattle.align_map.proofs.ComposedLaws.{owns_at-composed}
use Rattle.align_map.proofs.promises.composed_owners.Goals as goal

pub returns : goal.returns
returns c = owns_at-composed
