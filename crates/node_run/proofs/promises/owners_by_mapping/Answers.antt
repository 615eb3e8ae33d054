use Rattle.node_run.proofs.OwnedPieces.{spot-owned, least-owner}
use Rattle.node_run.proofs.promises.owners_by_mapping.Goals as goal

pub returns-clause-owned : goal.returns-clause-owned
returns-clause-owned c layouts spot layout node has below = spot-owned layouts spot layout has below node

pub returns-clause-least : goal.returns-clause-least
returns-clause-least c layouts spot layout count has below e = least-owner layouts spot layout has below count e
