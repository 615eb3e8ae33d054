use Rattle.std.proofs.Common.{◌≡◌, filter, map}
use Rattle.std.specs.List.{range_with_len}
use Rattle.machine_steps.specs.Node.{local_read, parcel}
use Rattle.remap_steps.specs.Redistributions.{message_between, sends_in}
use Rattle.remap_steps.proofs.redistribution.Redistribution.outbox.Given as goal

abbrev pub invariant-loop-target : goal.invariant-loop-target
invariant-loop-target l =
    l.outbox.items ≡ map (parcel (λ to. map (local_read l.fn.self.old l.fn.self.id l.pieces) (message_between l.fn.self l.fn.self.id to))) (filter (sends_in l.fn.self l.round l.fn.self.id) (range_with_len 0 l.target))
