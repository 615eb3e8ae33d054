use Rattle.std.proofs.Common.{◌≡◌, take}
use Rattle.node_machine.proofs.FirstPieces.{first_pieces}
use Rattle.node_machine.proofs.opening.first_pieces.Given as goal

abbrev pub invariant-loop-row : goal.invariant-loop-row
invariant-loop-row l = l.rows.items ≡ take l.row (first_pieces l.id l.owners.layouts l.starts)
