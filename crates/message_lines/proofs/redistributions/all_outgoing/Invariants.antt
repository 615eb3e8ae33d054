use Rattle.std.proofs.Common.{◌≡◌, map}
use Rattle.std.specs.List.{range_with_len}
use Rattle.machine_steps.specs.Message.{remap_message}
use Rattle.message_lines.proofs.redistributions.all_outgoing.Given as goal

-- those from the nodes so far
abbrev pub invariant-loop-from : goal.invariant-loop-from
invariant-loop-from l =
    l.all.items
    ≡ map (λ p. map (λ q. remap_message l.before.nodes l.before.layouts l.after.layouts p q) (range_with_len 0 l.before.nodes)) (range_with_len 0 l.from)
