use Rattle.std.proofs.Common.{◌≢◌, All, AllPairs, take}
use Rattle.redistribute_rounds.specs.Rounds.{IsBetween}
use Rattle.pair_cases.proofs.rounds.are_pairs.Given as goal

abbrev pub invariant-loop-place : goal.invariant-loop-place
invariant-loop-place l = record {
  between : All (IsBetween l.nodes) (take l.place l.pairs);
  distinct : AllPairs (λ one other. one ≢ other) (take l.place l.pairs);
}
