use Rattle.node_run.proofs.PartsInARow.{parts-parted}
use Rattle.node_run.proofs.promises.parts_in_a_row.Goals as goal

pub returns : goal.returns
returns g c meaning tuples left n k m running none first are = parts-parted meaning tuples left n m running none first k are
