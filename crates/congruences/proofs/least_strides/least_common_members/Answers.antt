use Rattle.congruences.proofs.LeastStrides.{narrow, still_common}
use Rattle.congruences.proofs.least_strides.least_common_members.Goals as goal

pub returns-in-Some-clause-common : goal.returns-in-Some-clause-common
returns-in-Some-clause-common c =
    let least = c.with_least_stride.ensures in
    still_common c.args.p c.args.q c.in-Some.common c.with_least_stride.result c.in-Some.ensures least.first least.one least.more least.count

pub returns-in-Some-clause-narrow : goal.returns-in-Some-clause-narrow
returns-in-Some-clause-narrow c =
    let least = c.with_least_stride.ensures in
    narrow c.args.p c.args.q c.in-Some.common c.with_least_stride.result c.in-Some.ensures least.first least.one least.more least.count c.requires.reach
