use Rattle.std.proofs.Common.{◌≡◌, ◌+◌, ◌/◌, ◌%◌, ◌<◌, length, map, drop, get_or, sym, ◌∙◌, ap, subst, arith}
use Rattle.std.proofs.lemmas.List.{get_or_default}
use Rattle.tuple_numbers.specs.Sums.{sums}
use Rattle.tuple_numbers.proofs.Rows.{next-at, next-value}
use Rattle.tuple_numbers.proofs.sums.sum_at.Goals as goal

pub nonzero_rem-left : goal.nonzero_rem-left
nonzero_rem-left c =
    let at = next-at (λ v. v.items) c.args.lists.now c.loop-list.list-index c.list-item.result c.loop-list-test.true c.list-item.is c.loop-list.left c.loop-list.invariant.within in
    subst (λ n. 0 < n) (sym (c.len.ensures ∙ c.list-item.result.ok.0)) at.some

pub index-requires : goal.index-requires
index-requires c =
    let at = next-at (λ v. v.items) c.args.lists.now c.loop-list.list-index c.list-item.result c.loop-list-test.true c.list-item.is c.loop-list.left c.loop-list.invariant.within in
    (λ (is : c.len.result ≡ length c.list-item.result.items). subst (λ n. c.loop-list.left % c.len.result < n) (sym c.list-item.result.ok.0) (subst (λ n. c.loop-list.left % n < length c.list-item.result.items) (sym is) at.place)) (c.len.ensures ∙ c.list-item.result.ok.0)

pub overflow_add-sum : goal.overflow_add-sum
overflow_add-sum c =
    let l = c.loop-list in
    let at = next-at (λ v. v.items) c.args.lists.now l.list-index c.list-item.result c.loop-list-test.true c.list-item.is l.left l.invariant.within in
    let value = next-value (λ v. v.items) c.args.lists.now l.list-index c.list-item.result c.loop-list-test.true c.list-item.is l.left l.sum
    (get_or (sums (map (λ v. v.items) c.args.lists.now)) c.args.number 0) l.invariant.within l.invariant.value in
    let here : c.index.result.now ≡ get_or c.list-item.result.items (l.left % length c.list-item.result.items) 0 =
    c.index.ensures ∙ ap (λ n. get_or c.list-item.result.items (l.left % n) c.index.result.now) (c.len.ensures ∙ c.list-item.result.ok.0)
    ∙ sym (get_or_default c.list-item.result.items (l.left % length c.list-item.result.items) 0 c.index.result.now at.place) in
    let few = c.requires.few in
    omega (arith, value, here, few)

pub nonzero_div-left : goal.nonzero_div-left
nonzero_div-left c =
    let at = next-at (λ v. v.items) c.args.lists.now c.loop-list.list-index c.list-item.result c.loop-list-test.true c.list-item.is c.loop-list.left c.loop-list.invariant.within in
    subst (λ n. 0 < n) (sym (c.len-left.ensures ∙ c.list-item.result.ok.0)) at.some

pub loop-list-preserved : goal.loop-list-preserved
loop-list-preserved c =
    let l = c.loop-list in
    let items = c.list-item.result.items in
    let at = next-at (λ v. v.items) c.args.lists.now l.list-index c.list-item.result c.loop-list-test.true c.list-item.is l.left l.invariant.within in
    let value = next-value (λ v. v.items) c.args.lists.now l.list-index c.list-item.result c.loop-list-test.true c.list-item.is l.left l.sum
    (get_or (sums (map (λ v. v.items) c.args.lists.now)) c.args.number 0) l.invariant.within l.invariant.value in
    let here : c.index.result.now ≡ get_or items (l.left % length items) 0 =
    c.index.ensures ∙ ap (λ n. get_or items (l.left % n) c.index.result.now) (c.len.ensures ∙ c.list-item.result.ok.0) ∙ sym (get_or_default items (l.left % length items) 0 c.index.result.now at.place) in
    record {
      within = subst (λ n. l.left / n < length (sums (map (λ v. v.items) (drop (l.list-index + 1) c.args.lists.now)))) (sym (c.len-left.ensures ∙ c.list-item.result.ok.0)) at.row;
      value = (λ i. l.sum + here i + get_or (sums (map (λ v. v.items) (drop (l.list-index + 1) c.args.lists.now))) (l.left / (c.len-left.ensures ∙ c.list-item.result.ok.0) i) 0) ∙ value;
    }
