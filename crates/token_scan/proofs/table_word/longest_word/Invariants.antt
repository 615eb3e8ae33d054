use Rattle.std.proofs.Common.{◌≤◌, length}
use Rattle.token_scan.specs.Pieces.{NoWordLonger, words_of}
use Rattle.token_scan.proofs.table_word.longest_word.Given as goal

-- no longer front is a word of the table
abbrev pub invariant-loop-len : goal.invariant-loop-len
invariant-loop-len l = record { within : l.len ≤ length l.bytes; none : NoWordLonger (words_of l.words) l.bytes l.len }

abbrev pub decreases-loop-len : goal.decreases-loop-len
decreases-loop-len l = l.len
