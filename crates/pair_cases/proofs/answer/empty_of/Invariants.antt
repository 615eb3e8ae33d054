use Rattle.std.proofs.Common.{◌≤◌}
use Rattle.pair_cases.proofs.answer.empty_of.Given as goal

abbrev pub invariant-loop-turn : goal.invariant-loop-turn
invariant-loop-turn l = l.empty ≤ l.turn
