use Rattle.std.proofs.Common.{◌≡◌, filter}
use Rattle.std.specs.List.{range_with_len}
use Rattle.machine_steps.specs.Node.{part_sends}
use Rattle.part_steps.specs.Parts.{part_of}
use Rattle.part_steps.specs.Views.{part_view}
use Rattle.part_steps.proofs.opening.inbox.Given as goal

-- those so far
abbrev pub invariant-loop-source : goal.invariant-loop-source
invariant-loop-source l = l.inbox.items ≡ filter (λ p. part_sends l.part.owners.now.nodes l.part.owners.now.layouts (part_of (part_view l.part)) p l.id) (range_with_len 0 l.source)
