use Rattle.std.proofs.Common.{refl}
use Rattle.token_scan.proofs.TableWords.{symbol_front, no_symbol}
use Rattle.token_scan.proofs.piece.other.Goals as goal

pub returns-in-Some : goal.returns-in-Some
returns-in-Some c = (symbol_front c.args.bytes.now c.in-Some.len c.in-Some.code c.requires.class c.in-Some.ensures, refl)

pub returns-in-None : goal.returns-in-None
returns-in-None c = no_symbol c.args.bytes.now c.requires.some c.requires.class c.in-None.ensures
