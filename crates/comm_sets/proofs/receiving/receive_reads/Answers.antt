use Rattle.std.proofs.Common.{◌<◌, length, map, option_map, take, None, ap, sym, ◌∙◌, ◌&&◌, arith}
use Rattle.machine_steps.specs.Message.{names_spot}
use Rattle.storage.specs.Spots.{spot_of}
use Rattle.message_elements.specs.Elements.{is_sent}
use Rattle.message_elements.proofs.AllSpots.{both-tests}
use Rattle.comm_sets.proofs.Noting.{noted-more, names-more}
use Rattle.comm_sets.proofs.receiving.receive_reads.Goals as goal

pub loop-read-preserved : goal.loop-read-preserved
loop-read-preserved c =
    let reads = c.args.reads.now in
    let inside : c.loop-read.read-index < length reads = omega arith in
    noted-more c.loop-read.invariant c.in_ok-receive_read.ensures (λ from lt s.
    let sent = is_sent c.args.owners.now.nodes c.args.owners.now.layouts from c.args.to s in
    both-tests _ (names_spot (map (option_map spot_of) (take c.loop-read.read-index reads)) s) sent
    ∙ ap (λ b. b && sent) (sym (names-more (option_map spot_of) reads c.loop-read.read-index None s inside)))
