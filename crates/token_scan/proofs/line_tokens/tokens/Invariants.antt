use Rattle.std.proofs.Common.{length, ◌-◌}
use Rattle.token_scan.proofs.LineScan.{IsScanned}
use Rattle.token_scan.proofs.line_tokens.tokens.Given as goal

abbrev pub invariant-loop-place : goal.invariant-loop-place
invariant-loop-place l = IsScanned l.line.bytes l.place l.found.items l.is_past_limit

abbrev pub decreases-loop-place : goal.decreases-loop-place
decreases-loop-place l = length l.bytes - l.place
