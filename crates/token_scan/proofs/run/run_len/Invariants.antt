use Rattle.std.proofs.Common.{◌≡◌, ℕ, ◌<◌, true, get_or}
use Rattle.token_scan.specs.Pieces.{is_in}
use Rattle.token_scan.proofs.run.run_len.Given as goal

abbrev pub invariant-loop-i : goal.invariant-loop-i
invariant-loop-i l = (k : ℕ) → k < l.i → is_in l.run (get_or l.bytes k 0) ≡ true
