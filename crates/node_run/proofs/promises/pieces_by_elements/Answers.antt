use Rattle.node_run.proofs.OwnedPieces.{piece-values, owned-elements, owned-address}
use Rattle.node_run.proofs.promises.pieces_by_elements.Goals as goal

pub returns-clause-values : goal.returns-clause-values
returns-clause-values c layout node row e = piece-values layout node row e

pub returns-clause-elements : goal.returns-clause-elements
returns-clause-elements c layout node = owned-elements layout node

pub returns-clause-addresses : goal.returns-clause-addresses
returns-clause-addresses c layout node at lt owned = owned-address layout node at lt owned
