use Rattle.std.proofs.Common.{ℕ, List, map}
use Rattle.std.specs.List.{range_with_len}
use Rattle.hpf_base.proofs.Ranges.{map-range_push}
use Rattle.storage.specs.Storage.{Spot}
use Rattle.machine_steps.specs.Message.{remap_message}
use Rattle.message_lines.proofs.redistributions.all_outgoing.Goals as goal

pub loop-from-preserved : goal.loop-from-preserved
loop-from-preserved c =
    let before = c.args.before.now in
    let from : ℕ → List (List Spot) = λ p. map (λ q. remap_message before.nodes before.layouts c.args.after.now.layouts p q) (range_with_len 0 before.nodes) in
    map-range_push from c.loop-from.all.items c.push.new.self.items c.in_ok-remap_outgoing.field-0 c.loop-from.from c.in_ok-push.ensures.items
    c.loop-from.invariant c.in_ok-remap_outgoing.ensures
