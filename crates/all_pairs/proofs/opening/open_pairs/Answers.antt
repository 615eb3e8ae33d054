use Rattle.std.proofs.Common.{rules, ◌≡◌, arith}
use Rattle.all_pairs.proofs.OpenRows.{rows_more, pairs_open}
use Rattle.all_pairs.proofs.opening.open_pairs.Goals as goal

pub loop-from-preserved : goal.loop-from-preserved
loop-from-preserved g c =
    rows_more c.args.count c.loop-from.from c.loop-from.outs.items c.push.new.self.items c.loop-from.ins.items c.push-in-loop-from.new.self.items c.in_ok-out.out
    c.in_ok-out.inn c.loop-from.invariant c.in_ok-out.ensures (search rules) (search rules)

pub returns : goal.returns
returns g c =
    let end : c.loop-from.from ≡ c.args.count = omega arith in
    pairs_open c.args.count c.loop-from.from c.loop-from.outs.items c.loop-from.ins.items c.in_ok-ins.ins.items c.loop-from.invariant end c.in_ok-ins.ensures
