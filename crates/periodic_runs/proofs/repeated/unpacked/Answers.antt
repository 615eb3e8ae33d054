use Rattle.std.proofs.Common.{ap, arith, length}
use Rattle.std.proofs.lemmas.List.FromFn.{length-map-range_with_len}
use Rattle.hpf_base.proofs.Ranges.{map-range_push}
use Rattle.periodic_runs.specs.Periods.{expected}
use Rattle.periodic_runs.proofs.repeated.unpacked.Goals as goal

pub push-requires : goal.push-requires
push-requires c =
    let made = expected c.args.front.now c.args.gains.now c.args.period in
    omega (arith, ap length c.loop-number.invariant, length-map-range_with_len made 0 c.loop-number.number, c.loop-number-test.true, c.requires.len)

pub loop-number-preserved : goal.loop-number-preserved
loop-number-preserved c =
    map-range_push (expected c.args.front.now c.args.gains.now c.args.period) c.loop-number.all c.push.new.self c.expected.result c.loop-number.number
    c.in_ok-push.ensures.more c.loop-number.invariant c.expected.ensures
