use Rattle.std.proofs.Common.{◌≡◌, map}
use Rattle.std.specs.List.{range_with_len}
use Rattle.machine_steps.specs.Rounds.{color_round}
use Rattle.redistribute_rounds.proofs.color_rounds.by_color.Given as goal

abbrev pub invariant-loop-number : goal.invariant-loop-number
invariant-loop-number l = map (λ v. v.items) l.list.items ≡ map (color_round l.nodes l.pairs) (range_with_len 0 l.number)
