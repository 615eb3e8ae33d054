use Rattle.std.proofs.Common.{◌≡◌, ◌+◌, ◌-◌, ◌/◌, ◌%◌, ◌<◌, ◌≤◌, ◌^◌, length, map, take, drop, get_or, option_map, Some, None, sym, ◌∙◌, ap, subst, arith}
use Rattle.std.proofs.lemmas.List.{length-drop, length-map}
use Rattle.std.proofs.lemmas.List.FromFn.{length-range_with_len}
use Rattle.tuple_numbers.specs.Runs.{places_of, reach}
use Rattle.tuple_numbers.specs.Sums.{sums}
use Rattle.tuple_numbers.proofs.Rows.{is-near, range-rest, reach-some}
use Rattle.tuple_numbers.proofs.kept.Tuples.run.Goals as goal

pub nonzero_div-from : goal.nonzero_div-from
nonzero_div-from c =
    let t = c.self.inside in
    let near = option_map (λ v. v.items) t.near in
    let after = sums (map (λ v. v.items) t.far.items) in
    let at = is-near (places_of near t.start t.width) after t.width c.args.from c.self.invariant.0 (subst (λ xs. c.args.from < length xs) (sym c.self.view_is) c.requires) in
    at.some

pub sum_at-first-requires-clause-within : goal.sum_at-first-requires-clause-within
sum_at-first-requires-clause-within c =
    let t = c.self.inside in
    let near = option_map (λ v. v.items) t.near in
    let after = sums (map (λ v. v.items) t.far.items) in
    let at = is-near (places_of near t.start t.width) after t.width c.args.from c.self.invariant.0 (subst (λ xs. c.args.from < length xs) (sym c.self.view_is) c.requires) in
    subst (λ vs. c.args.from / t.width < length (sums (map (λ v. v.items) vs))) (sym c.deref.ensures.value) at.row

pub sum_at-first-requires-clause-few : goal.sum_at-first-requires-clause-few
sum_at-first-requires-clause-few c =
    let t = c.self.inside in
    let near = option_map (λ v. v.items) t.near in
    let after = sums (map (λ v. v.items) t.far.items) in
    let at = is-near (places_of near t.start t.width) after t.width c.args.from c.self.invariant.0 (subst (λ xs. c.args.from < length xs) (sym c.self.view_is) c.requires) in
    let room = c.self.invariant.2 (c.args.from / t.width) 0 at.row in
    let some = reach-some near t.start t.width at.some in
    let small : get_or after (c.args.from / t.width) 0 < 2 ^ 64 = omega (arith, room, some) in
    subst (λ vs. get_or (sums (map (λ v. v.items) vs)) (c.args.from / t.width) 0 < 2 ^ 64) (sym c.deref.ensures.value) small

pub nonzero_rem-skip : goal.nonzero_rem-skip
nonzero_rem-skip c =
    let t = c.self.inside in
    let near = option_map (λ v. v.items) t.near in
    let after = sums (map (λ v. v.items) t.far.items) in
    let at = is-near (places_of near t.start t.width) after t.width c.args.from c.self.invariant.0 (subst (λ xs. c.args.from < length xs) (sym c.self.view_is) c.requires) in
    at.some

pub overflow_add-first : goal.overflow_add-first
overflow_add-first c =
    let t = c.self.inside in
    let near = option_map (λ v. v.items) t.near in
    let after = sums (map (λ v. v.items) t.far.items) in
    let at = is-near (places_of near t.start t.width) after t.width c.args.from c.self.invariant.0 (subst (λ xs. c.args.from < length xs) (sym c.self.view_is) c.requires) in
    let first : c.sum_at-first.result ≡ get_or after (c.args.from / t.width) 0 = c.sum_at-first.ensures ∙ ap (λ vs. get_or (sums (map (λ v. v.items) vs)) (c.args.from / t.width) 0) c.deref.ensures.value in
    let room : c.sum_at-first.result + reach near t.start t.width ≤ 2 ^ 64 = subst (λ n. n + reach near t.start t.width ≤ 2 ^ 64) (sym first) (c.self.invariant.2 (c.args.from / t.width) 0 at.row) in
    let none : near ≡ None = ap (option_map (λ v. v.items)) c.in-None.is in
    let small : c.sum_at-first.result + (t.start + t.width) ≤ 2 ^ 64 = subst (λ o. c.sum_at-first.result + reach o t.start t.width ≤ 2 ^ 64) none room in
    let place = at.place in
    omega (arith, small, place)

pub overflow_add-first-in-None : goal.overflow_add-first-in-None
overflow_add-first-in-None c =
    let t = c.self.inside in
    let near = option_map (λ v. v.items) t.near in
    let after = sums (map (λ v. v.items) t.far.items) in
    let at = is-near (places_of near t.start t.width) after t.width c.args.from c.self.invariant.0 (subst (λ xs. c.args.from < length xs) (sym c.self.view_is) c.requires) in
    let first : c.sum_at-first.result ≡ get_or after (c.args.from / t.width) 0 = c.sum_at-first.ensures ∙ ap (λ vs. get_or (sums (map (λ v. v.items) vs)) (c.args.from / t.width) 0) c.deref.ensures.value in
    let room : c.sum_at-first.result + reach near t.start t.width ≤ 2 ^ 64 = subst (λ n. n + reach near t.start t.width ≤ 2 ^ 64) (sym first) (c.self.invariant.2 (c.args.from / t.width) 0 at.row) in
    let none : near ≡ None = ap (option_map (λ v. v.items)) c.in-None.is in
    let small : c.sum_at-first.result + (t.start + t.width) ≤ 2 ^ 64 = subst (λ o. c.sum_at-first.result + reach o t.start t.width ≤ 2 ^ 64) none room in
    let place = at.place in
    omega (arith, small, place)

pub overflow_sub-self-inside : goal.overflow_sub-self-inside
overflow_sub-self-inside c =
    let t = c.self.inside in
    let near = option_map (λ v. v.items) t.near in
    let after = sums (map (λ v. v.items) t.far.items) in
    let at = is-near (places_of near t.start t.width) after t.width c.args.from c.self.invariant.0 (subst (λ xs. c.args.from < length xs) (sym c.self.view_is) c.requires) in
    let place = at.place in
    omega (arith, place)

pub from-requires : goal.from-requires
from-requires c =
    let t = c.self.inside in
    let near = option_map (λ v. v.items) t.near in
    let after = sums (map (λ v. v.items) t.far.items) in
    let at = is-near (places_of near t.start t.width) after t.width c.args.from c.self.invariant.0 (subst (λ xs. c.args.from < length xs) (sym c.self.view_is) c.requires) in
    let first : c.sum_at-first.result ≡ get_or after (c.args.from / t.width) 0 = c.sum_at-first.ensures ∙ ap (λ vs. get_or (sums (map (λ v. v.items) vs)) (c.args.from / t.width) 0) c.deref.ensures.value in
    let room : c.sum_at-first.result + reach near t.start t.width ≤ 2 ^ 64 = subst (λ n. n + reach near t.start t.width ≤ 2 ^ 64) (sym first) (c.self.invariant.2 (c.args.from / t.width) 0 at.row) in
    let none : near ≡ None = ap (option_map (λ v. v.items)) c.in-None.is in
    let small : c.sum_at-first.result + (t.start + t.width) ≤ 2 ^ 64 = subst (λ o. c.sum_at-first.result + reach o t.start t.width ≤ 2 ^ 64) none room in
    let place = at.place in
    omega (arith, small, place)

pub rest_of-requires : goal.rest_of-requires
rest_of-requires c =
    let t = c.self.inside in
    let near = option_map (λ v. v.items) t.near in
    let after = sums (map (λ v. v.items) t.far.items) in
    let at = is-near (places_of near t.start t.width) after t.width c.args.from c.self.invariant.0 (subst (λ xs. c.args.from < length xs) (sym c.self.view_is) c.requires) in
    let some : near ≡ Some c.in-Some.near.items = ap (option_map (λ v. v.items)) c.in-Some.is in
    let long : t.width ≡ length c.in-Some.near.items = subst (λ o. t.width ≡ length (places_of o t.start t.width)) some c.self.invariant.0 in
    let place = at.place in
    subst (λ xs. c.args.from % t.width ≤ length xs) (sym c.deref-in-Some.ensures.value) (omega (arith, long, place))

pub with-requires : goal.with-requires
with-requires c =
    let t = c.self.inside in
    let near = option_map (λ v. v.items) t.near in
    let after = sums (map (λ v. v.items) t.far.items) in
    let at = is-near (places_of near t.start t.width) after t.width c.args.from c.self.invariant.0 (subst (λ xs. c.args.from < length xs) (sym c.self.view_is) c.requires) in
    let first : c.sum_at-first.result ≡ get_or after (c.args.from / t.width) 0 = c.sum_at-first.ensures ∙ ap (λ vs. get_or (sums (map (λ v. v.items) vs)) (c.args.from / t.width) 0) c.deref.ensures.value in
    let room : c.sum_at-first.result + reach near t.start t.width ≤ 2 ^ 64 = subst (λ n. n + reach near t.start t.width ≤ 2 ^ 64) (sym first) (c.self.invariant.2 (c.args.from / t.width) 0 at.row) in
    subst (λ o. c.sum_at-first.result + reach o t.start t.width ≤ 2 ^ 64) (ap (option_map (λ v. v.items)) c.in-Some.is) room

pub returns-in-None-clause-some : goal.returns-in-None-clause-some
returns-in-None-clause-some c =
    let t = c.self.inside in
    let near = option_map (λ v. v.items) t.near in
    let after = sums (map (λ v. v.items) t.far.items) in
    let at = is-near (places_of near t.start t.width) after t.width c.args.from c.self.invariant.0 (subst (λ xs. c.args.from < length xs) (sym c.self.view_is) c.requires) in
    let place = at.place in
    let long : length c.from.result ≡ t.width - c.args.from % t.width = ap length c.from.ensures ∙ length-range_with_len (c.sum_at-first.result + t.start + c.args.from % t.width) (t.width - c.args.from % t.width) in
    omega (arith, long, place)

pub returns-in-None-clause-tuples : goal.returns-in-None-clause-tuples
returns-in-None-clause-tuples c =
    let t = c.self.inside in
    let near = option_map (λ v. v.items) t.near in
    let after = sums (map (λ v. v.items) t.far.items) in
    let at = is-near (places_of near t.start t.width) after t.width c.args.from c.self.invariant.0 (subst (λ xs. c.args.from < length xs) (sym c.self.view_is) c.requires) in
    let first : c.sum_at-first.result ≡ get_or after (c.args.from / t.width) 0 = c.sum_at-first.ensures ∙ ap (λ vs. get_or (sums (map (λ v. v.items) vs)) (c.args.from / t.width) 0) c.deref.ensures.value in
    let skip = c.args.from % t.width in
    let none : near ≡ None = ap (option_map (λ v. v.items)) c.in-None.is in
    let place = at.place in
    let long : t.width - skip ≡ length c.from.result = sym (ap length c.from.ensures ∙ length-range_with_len (c.sum_at-first.result + t.start + skip) (t.width - skip)) in
    c.from.ensures ∙ sym (range-rest c.sum_at-first.result t.start skip t.width (omega (arith, place))) ∙ (λ i. map (λ p. first i + p) (drop skip (places_of (sym none i) t.start t.width)))
    ∙ at.rest ∙ (λ i. take (long i) (drop c.args.from (c.self.view_is i)))

pub returns-in-Some-clause-some : goal.returns-in-Some-clause-some
returns-in-Some-clause-some c =
    let t = c.self.inside in
    let near = option_map (λ v. v.items) t.near in
    let after = sums (map (λ v. v.items) t.far.items) in
    let at = is-near (places_of near t.start t.width) after t.width c.args.from c.self.invariant.0 (subst (λ xs. c.args.from < length xs) (sym c.self.view_is) c.requires) in
    let some : near ≡ Some c.in-Some.near.items = ap (option_map (λ v. v.items)) c.in-Some.is in
    let long : t.width ≡ length c.in-Some.near.items = subst (λ o. t.width ≡ length (places_of o t.start t.width)) some c.self.invariant.0 in
    let place = at.place in
    let left : length c.with.result ≡ length c.in-Some.near.items - c.args.from % t.width = ap length c.with.ensures ∙ length-map c.rest_of.result.now (λ p. c.sum_at-first.result + p)
    ∙ ap length (c.rest_of.ensures ∙ ap (drop (c.args.from % t.width)) c.deref-in-Some.ensures.value) ∙ length-drop (c.args.from % t.width) c.in-Some.near.items in
    omega (arith, left, long, place)

pub returns-in-Some-clause-tuples : goal.returns-in-Some-clause-tuples
returns-in-Some-clause-tuples c =
    let t = c.self.inside in
    let near = option_map (λ v. v.items) t.near in
    let after = sums (map (λ v. v.items) t.far.items) in
    let at = is-near (places_of near t.start t.width) after t.width c.args.from c.self.invariant.0 (subst (λ xs. c.args.from < length xs) (sym c.self.view_is) c.requires) in
    let first : c.sum_at-first.result ≡ get_or after (c.args.from / t.width) 0 = c.sum_at-first.ensures ∙ ap (λ vs. get_or (sums (map (λ v. v.items) vs)) (c.args.from / t.width) 0) c.deref.ensures.value in
    let some : near ≡ Some c.in-Some.near.items = ap (option_map (λ v. v.items)) c.in-Some.is in
    let long : t.width ≡ length c.in-Some.near.items = subst (λ o. t.width ≡ length (places_of o t.start t.width)) some c.self.invariant.0 in
    let place = at.place in
    let skip = c.args.from % t.width in
    let rest : c.rest_of.result.now ≡ drop skip c.in-Some.near.items = c.rest_of.ensures ∙ ap (drop skip) c.deref-in-Some.ensures.value in
    let left : t.width - skip ≡ length c.with.result = sym (ap length c.with.ensures ∙ length-map c.rest_of.result.now (λ p. c.sum_at-first.result + p) ∙ ap length rest
    ∙ length-drop skip c.in-Some.near.items ∙ ap (λ n. n - skip) (sym long)) in
    c.with.ensures ∙ (λ i. map (λ p. first i + p) (rest i)) ∙ (λ i. map (λ p. get_or after (c.args.from / t.width) 0 + p) (drop skip (places_of (sym some i) t.start t.width)))
    ∙ at.rest ∙ (λ i. take (left i) (drop c.args.from (c.self.view_is i)))
