use Rattle.std.proofs.Common.{◌≤ℤ◌, neg_ℤ, of_z, pos, sym, subst, to_z}
use Rattle.std.proofs.Math.Facts.{to_z-of_z}
use Rattle.std.specs.Int.{w128}
use Rattle.congruences.proofs.Shifts.{base_fits, none_common, some_common}
use Rattle.congruences.proofs.progressions.meet.Goals as goal

pub returns-in-Some : goal.returns-in-Some
returns-in-Some c =
    let base = c.base_of-base.ensures in
    some_common c.args.p c.args.q (to_z w128 (of_z w128 c.base_of-base.result)) c.shifted.result c.shifted-2.result c.shifted.ensures.shifted c.shifted-2.ensures.shifted
    c.shifted_back.result c.in-Some.common c.shifted_back.ensures c.in-Some.ensures.common c.in-Some.ensures.narrow
    (subst (λ z. neg_ℤ (pos 4611686018427387904) ≤ℤ z) (sym (to_z-of_z (base_fits c.base_of-base.result base.low base.high))) base.low) c.requires.p

pub returns-in-None : goal.returns-in-None
returns-in-None c =
    none_common c.args.p c.args.q (to_z w128 (of_z w128 c.base_of-base.result)) c.shifted.result c.shifted-2.result c.shifted.ensures.shifted c.shifted-2.ensures.shifted
    c.in-None.ensures.common
