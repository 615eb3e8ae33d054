use Rattle.std.proofs.Common.{◌≡◌, ◌≤◌, ◌-◌, length, take, Some}
use Rattle.token_scan.specs.Tokens.{text_of}
use Rattle.token_scan.proofs.piece.text.Given as goal

-- what is read so far is a text
abbrev pub invariant-loop-run : goal.invariant-loop-run
invariant-loop-run l = record {
  some : 1 ≤ l.len;
  within : l.len ≤ length l.bytes;
  read : text_of (take l.len l.bytes) ≡ Some l.characters.items;
}

abbrev pub decreases-loop-run : goal.decreases-loop-run
decreases-loop-run l = length l.bytes - l.len
