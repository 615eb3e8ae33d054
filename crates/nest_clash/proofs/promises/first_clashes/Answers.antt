use Rattle.std.proofs.Common.{refl}
use Rattle.array_meaning.specs.Clashes.{first_clash}
use Rattle.nest_clash.proofs.FirstOfAll.{tells_first}
use Rattle.nest_clash.proofs.promises.first_clashes.Goals as goal

pub returns : goal.returns
returns c touched n = tells_first touched n (first_clash touched n) refl
