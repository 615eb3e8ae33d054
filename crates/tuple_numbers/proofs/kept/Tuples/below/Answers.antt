use Rattle.std.proofs.Common.{◌≡◌, ◌+◌, ◌≤◌, ◌^◌, ◌∷◌, [], All, length, map, sym, ◌∙◌, ap, subst, arith}
use Rattle.std.proofs.lemmas.List.Elements.{All-cons, All-nil}
use Rattle.std.proofs.lemmas.List.FromFn.{length-range_with_len}
use Rattle.std.specs.List.{range_with_len}
use Rattle.tuple_numbers.specs.Sums.{rows, sums}
use Rattle.tuple_numbers.proofs.Rows.{alone}
use Rattle.tuple_numbers.proofs.kept.Tuples.below.Goals as goal

pub invariant_of-result : goal.invariant_of-result
invariant_of-result c =
    let one : sums (map (λ v. v.items) c.new.result.items) ≡ 0 ∷ [] = ap (λ vs. sums (map (λ v. v.items) vs)) c.new.ensures.items in
    let long = sym (length-range_with_len 0 c.args.count) in
    let fits = c.ranges.count.fits in (
      long,
      long ∙ ap length (sym (ap (λ ns. rows ns (range_with_len 0 c.args.count)) one ∙ alone (range_with_len 0 c.args.count))),
      subst (All (λ n. n + (0 + c.args.count) ≤ 2 ^ 64)) (sym one) (All-cons (λ n. n + (0 + c.args.count) ≤ 2 ^ 64) 0 [] (omega (arith, fits)) (All-nil (λ n. n + (0 + c.args.count) ≤ 2 ^ 64))),
    )

pub returns : goal.returns
returns c =
    let one : sums (map (λ v. v.items) c.new.result.items) ≡ 0 ∷ [] = ap (λ vs. sums (map (λ v. v.items) vs)) c.new.ensures.items in
    ap (λ ns. rows ns (range_with_len 0 c.args.count)) one ∙ alone (range_with_len 0 c.args.count)
