use Rattle.std.proofs.Common.{◌≡◌, map}
use Rattle.std.specs.List.{range_with_len}
use Rattle.periodic_runs.specs.Periods.{expected}
use Rattle.periodic_runs.proofs.repeated.unpacked.Given as goal

-- the places so far
abbrev pub invariant-loop-number : goal.invariant-loop-number
invariant-loop-number l = l.all ≡ map (expected l.front l.gains l.period) (range_with_len 0 l.number)
