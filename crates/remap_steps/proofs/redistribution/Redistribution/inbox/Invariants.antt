use Rattle.std.proofs.Common.{◌≡◌, filter}
use Rattle.std.specs.List.{range_with_len}
use Rattle.remap_steps.specs.Redistributions.{sends_in}
use Rattle.remap_steps.proofs.redistribution.Redistribution.inbox.Given as goal

abbrev pub invariant-loop-source : goal.invariant-loop-source
invariant-loop-source l = l.inbox.items ≡ filter (λ from. sends_in l.fn.self l.round from l.fn.self.id) (range_with_len 0 l.source)
