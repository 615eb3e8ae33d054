use Rattle.std.proofs.Common.{◌≡◌, ◌*◌, ◌<◌, ◌^◌, length, map, option_map, sym, ◌∙◌, subst, arith}
use Rattle.tuple_numbers.specs.Runs.{places_of}
use Rattle.tuple_numbers.specs.Sums.{rows, sums}
use Rattle.tuple_numbers.proofs.Rows.{length-rows}
use Rattle.tuple_numbers.proofs.kept.Tuples.summed.Goals as goal

pub count_of-count-requires-clause-few : goal.count_of-count-requires-clause-few
count_of-count-requires-clause-few c =
    let after = sums (map (λ v. v.items) c.args.far.items) in
    let near = places_of (option_map (λ v. v.items) c.args.near) c.args.start c.args.width in
    let long : length (rows after near) ≡ c.args.width * length (sums (map (λ v. v.items) c.deref.result.now)) =
    length-rows near after ∙ (λ i. sym c.requires.width i * length (sums (map (λ v. v.items) (sym c.deref.ensures.value i)))) in
    subst (λ n. n < 2 ^ 64) long c.requires.few

pub invariant_of-result : goal.invariant_of-result
invariant_of-result c =
    let after = sums (map (λ v. v.items) c.args.far.items) in
    let near = places_of (option_map (λ v. v.items) c.args.near) c.args.start c.args.width in
    let count : c.count_of-count.result ≡ length (rows after near) =
    c.count_of-count.ensures ∙ (λ i. c.requires.width i * length (sums (map (λ v. v.items) (c.deref.ensures.value i)))) ∙ sym (length-rows near after) in
    let most = c.requires.reach in
    (c.requires.width, count, λ k d lt. let small = c.requires.small k d lt in omega (arith, small, most))
