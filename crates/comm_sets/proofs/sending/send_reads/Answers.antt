use Rattle.std.proofs.Common.{◌<◌, nat_eq, length, map, option_map, take, None, ap, sym, ◌∙◌, ◌&&◌, arith}
use Rattle.std.specs.List.{list_any}
use Rattle.machine_steps.specs.Message.{names_spot}
use Rattle.storage.specs.Spots.{spot_of}
use Rattle.message_elements.specs.Elements.{is_sent}
use Rattle.message_elements.proofs.AllSpots.{both-tests}
use Rattle.comm_sets.proofs.Noting.{noted-more, names-more, both-within}
use Rattle.comm_sets.proofs.sending.send_reads.Goals as goal

pub loop-read-preserved : goal.loop-read-preserved
loop-read-preserved c =
    let reads = c.args.reads.now in
    let inside : c.loop-read.read-index < length reads = omega arith in
    noted-more c.loop-read.invariant c.in_ok-send_read.ensures (λ to lt s.
    let sent = is_sent c.args.owners.now.nodes c.args.owners.now.layouts c.args.from to s in
    let asks = list_any (λ node. nat_eq node to) c.args.computing.now in
    let before = names_spot (map (option_map spot_of) (take c.loop-read.read-index reads)) s in
    both-tests _ (asks && before) sent
    ∙ ap (λ b. b && sent) (both-within asks _ before ∙ ap (λ b. asks && b) (sym (names-more (option_map spot_of) reads c.loop-read.read-index None s inside))))
