use Rattle.std.proofs.Common.{◌+◌, ◌*◌, ◌<◌, ◌^◌, length, map, drop, sym, ◌∙◌, ap, subst, arith}
use Rattle.tuple_numbers.specs.Sums.{sums}
use Rattle.tuple_numbers.proofs.Rows.{next-count, next-fits}
use Rattle.tuple_numbers.proofs.sums.count_of.Goals as goal

pub overflow_mul-count : goal.overflow_mul-count
overflow_mul-count c =
    let l = c.loop-list in
    let total = c.args.width * length (sums (map (λ v. v.items) c.args.lists.now)) in
    let few : l.count * length c.list-item.result.items < 2 ^ 64 = next-fits (λ v. v.items) c.args.lists.now l.list-index c.list-item.result c.loop-list-test.true c.list-item.is l.count total
    c.requires.some c.requires.few l.invariant in
    let fits : l.count * c.len-count.result < 2 ^ 64 = subst (λ n. l.count * n < 2 ^ 64) (sym (c.len-count.ensures ∙ c.list-item.result.ok.0)) few in
    omega (arith, fits)

pub loop-list-preserved : goal.loop-list-preserved
loop-list-preserved c =
    let l = c.loop-list in
    let total = c.args.width * length (sums (map (λ v. v.items) c.args.lists.now)) in
    ap (λ n. l.count * n * length (sums (map (λ v. v.items) (drop (l.list-index + 1) c.args.lists.now)))) (c.len-count.ensures ∙ c.list-item.result.ok.0)
    ∙ next-count (λ v. v.items) c.args.lists.now l.list-index c.list-item.result c.loop-list-test.true c.list-item.is l.count total l.invariant
