use Rattle.std.proofs.Common.{◌^◌, ◌<◌, arith, subst}
use Rattle.std.proofs.lemmas.List.FromFn.{get_or-map-range_with_len, length-map-range_with_len}
use Rattle.hpf_base.proofs.Ranges.{map-range_push}
use Rattle.gap_table.specs.GapTable.{nth_of}
use Rattle.owner_tables.proofs.positions.listed.Goals as goal

pub nth-requires-clause-small : goal.nth-requires-clause-small
nth-requires-clause-small c =
    let table = c.args.table.now in
    let k = c.loop-number.number in
    let below : k < table.len = omega (arith, c.loop-number-test.true, c.len-number-end.ensures) in
    subst (λ n. n < 2 ^ 32) (get_or-map-range_with_len (nth_of table) 0 table.len k k 0 below (omega arith))
    (c.requires k 0 (omega (arith, below, length-map-range_with_len (nth_of table) 0 table.len)))

pub loop-number-preserved : goal.loop-number-preserved
loop-number-preserved c =
    map-range_push (nth_of c.args.table.now) c.loop-number.places.items c.push.new.self.items c.nth.result c.loop-number.number c.in_ok-push.ensures.items
    c.loop-number.invariant c.nth.ensures
