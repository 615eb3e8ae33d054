use Rattle.std.proofs.Common.{sym}
use Rattle.token_scan.proofs.Fronts.{blank_front}
use Rattle.token_scan.proofs.piece.first_piece.Goals as goal

pub returns-in-Blank : goal.returns-in-Blank
returns-in-Blank c = blank_front c.args.bytes.now c.requires (sym c.in-Blank.ensures)
