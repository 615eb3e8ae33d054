use Rattle.nest_join.proofs.ListedFinals.{has-final}
use Rattle.nest_join.proofs.promises.finals_listed.Goals as goal

pub returns : goal.returns
returns c w scalars conditions b start entry are places marks listed rows below k lt has no_index value =
    let l = listed k has in
    has-final w scalars conditions are places marks listed rows b start entry below k l.0 lt l.1 no_index value has
