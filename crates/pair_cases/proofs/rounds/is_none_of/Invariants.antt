use Rattle.std.proofs.Common.{◌≢◌, All, take}
use Rattle.pair_cases.proofs.rounds.is_none_of.Given as goal

abbrev pub invariant-loop-other : goal.invariant-loop-other
invariant-loop-other l = All (λ other. other ≢ l.pair) (take l.other-index l.others)
