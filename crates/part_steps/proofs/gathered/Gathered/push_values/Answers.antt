use Rattle.std.proofs.Common.{arith}
use Rattle.storage.specs.Spots.{spot_of}
use Rattle.part_steps.specs.Gathered.{after_of}
use Rattle.part_steps.proofs.LineValues.{after-one, after-owned}
use Rattle.part_steps.proofs.gathered.Gathered.push_values.Goals as goal

pub returns-in_ok-push_value-clause-after : goal.returns-in_ok-push_value-clause-after
returns-in_ok-push_value-clause-after c =
    (after-one (after_of c.args.self.now) c.args.line (spot_of c.spot_in-next.result) c.args.done c.in_ok-put.put c.args.values.now.items c.push_held.new.values.items
    c.spot_in-next.ensures c.requires.before c.in_ok-put.ensures.pushed c.push_value.new.values.items c.if-put-eq0.true c.in_ok-push_value.ensures).0

pub returns-in_ok-push_value-clause-more : goal.returns-in_ok-push_value-clause-more
returns-in_ok-push_value-clause-more c =
    let long = (after-one (after_of c.args.self.now) c.args.line (spot_of c.spot_in-next.result) c.args.done c.in_ok-put.put c.args.values.now.items c.push_held.new.values.items
    c.spot_in-next.ensures c.requires.before c.in_ok-put.ensures.pushed c.push_value.new.values.items c.if-put-eq0.true c.in_ok-push_value.ensures).1 in
    omega (arith, long)

pub returns-in_ok-push_value-clause-few : goal.returns-in_ok-push_value-clause-few
returns-in_ok-push_value-clause-few c =
    let long = (after-one (after_of c.args.self.now) c.args.line (spot_of c.spot_in-next.result) c.args.done c.in_ok-put.put c.args.values.now.items c.push_held.new.values.items
    c.spot_in-next.ensures c.requires.before c.in_ok-put.ensures.pushed c.push_value.new.values.items c.if-put-eq0.true c.in_ok-push_value.ensures).1 in
    let some = c.requires.some in
    omega (arith, long, some)

pub returns-else-put-eq0-clause-after : goal.returns-else-put-eq0-clause-after
returns-else-put-eq0-clause-after c =
    (after-owned (after_of c.args.self.now) c.args.line (spot_of c.spot_in-next.result) c.args.done c.in_ok-put.put c.args.values.now.items c.push_held.new.values.items
    c.spot_in-next.ensures c.requires.before c.in_ok-put.ensures.pushed c.in_ok-put.ensures.owned).0

pub returns-else-put-eq0-clause-more : goal.returns-else-put-eq0-clause-more
returns-else-put-eq0-clause-more c =
    let long = (after-owned (after_of c.args.self.now) c.args.line (spot_of c.spot_in-next.result) c.args.done c.in_ok-put.put c.args.values.now.items c.push_held.new.values.items
    c.spot_in-next.ensures c.requires.before c.in_ok-put.ensures.pushed c.in_ok-put.ensures.owned).1 in
    omega arith

pub returns-else-put-eq0-clause-few : goal.returns-else-put-eq0-clause-few
returns-else-put-eq0-clause-few c =
    let long = (after-owned (after_of c.args.self.now) c.args.line (spot_of c.spot_in-next.result) c.args.done c.in_ok-put.put c.args.values.now.items c.push_held.new.values.items
    c.spot_in-next.ensures c.requires.before c.in_ok-put.ensures.pushed c.in_ok-put.ensures.owned).1 in
    let few = c.in_ok-put.ensures.few in
    let some = c.requires.some in
    omega (arith, long, few, some)
