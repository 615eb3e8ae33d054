use Rattle.std.proofs.Common.{◌≡◌, ◌==◌, filter, take}
use Rattle.machine_steps.specs.Rounds.{color_of}
use Rattle.redistribute_rounds.proofs.color_rounds.of_color.Given as goal

abbrev pub invariant-loop-k : goal.invariant-loop-k
invariant-loop-k l = l.round.items ≡ filter (λ pair. color_of l.nodes l.pairs pair == l.number) (take l.k l.pairs)
