use Rattle.std.proofs.Common.{ap, rules}
use Rattle.pair_mailbox.specs.Ends.{Outgoing, Incoming}
use Rattle.all_pairs.proofs.OpenRows.{row_more}
use Rattle.all_pairs.proofs.opening.open_row.Goals as goal

pub loop-to-preserved : goal.loop-to-preserved
loop-to-preserved g c =
    let out = c.in_ok-out.ensures.out in
    let inn = c.in_ok-out.ensures.inn in
    row_more c.args.from c.loop-to.to c.loop-to.outs.items c.push.new.self.items c.loop-to.ins.items c.push-in-loop-to.new.self.items c.in_ok-out.out
    c.in_ok-out.inn c.loop-to.invariant (search rules) (search rules) c.in_ok-out.ensures.one_queue (ap (λ (o : Outgoing). o.route) out)
    (ap (λ (o : Outgoing). o.sent) out) (ap (λ (i : Incoming). i.route) inn) (ap (λ (i : Incoming). i.taken) inn)
