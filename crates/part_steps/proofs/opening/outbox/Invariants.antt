use Rattle.std.proofs.Common.{◌≡◌, filter, map}
use Rattle.std.specs.List.{range_with_len}
use Rattle.machine_steps.specs.Message.{message}
use Rattle.machine_steps.specs.Node.{local_read, parcel, part_sends}
use Rattle.part_steps.specs.Parts.{part_of}
use Rattle.part_steps.specs.Views.{part_view}
use Rattle.part_steps.proofs.opening.outbox.Given as goal

-- those to the first nodes
abbrev pub invariant-loop-target : goal.invariant-loop-target
invariant-loop-target l =
    l.outbox.items
    ≡ map (parcel (λ q. map (local_read l.part.owners.now.layouts l.id l.pieces) (message l.part.owners.now.nodes l.part.owners.now.layouts (part_of (part_view l.part)) l.id q)))
    (filter (part_sends l.part.owners.now.nodes l.part.owners.now.layouts (part_of (part_view l.part)) l.id) (range_with_len 0 l.target))
