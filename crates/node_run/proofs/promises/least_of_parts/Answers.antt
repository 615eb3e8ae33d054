use Rattle.node_run.proofs.PartsInARow.{none-kept, least-kept}
use Rattle.node_run.proofs.promises.least_of_parts.Goals as goal

pub returns-clause-none : goal.returns-clause-none
returns-clause-none g c outcome left start n number k e = none-kept outcome left start n number k e

pub returns-clause-least : goal.returns-clause-least
returns-clause-least g c outcome left start n number k l rising e = least-kept outcome left start n number k rising l e
