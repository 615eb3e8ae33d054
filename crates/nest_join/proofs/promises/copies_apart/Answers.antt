use Rattle.nest_join.proofs.RowPlaces.{scalars-apart}
use Rattle.nest_join.proofs.MadeRows.{made-rows, names-unmade}
use Rattle.nest_join.proofs.promises.copies_apart.Goals as goal

pub returns-clause-rows : goal.returns-clause-rows
returns-clause-rows c n scalars conditions kinds = made-rows n scalars conditions kinds

pub returns-clause-names : goal.returns-clause-names
returns-clause-names c n scalars conditions kinds a lt = names-unmade n scalars conditions kinds a lt

pub returns-clause-slots : goal.returns-clause-slots
returns-clause-slots c n scalars conditions kinds are = scalars-apart n scalars conditions are kinds
