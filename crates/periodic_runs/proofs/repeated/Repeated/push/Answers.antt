use Rattle.std.proofs.Common.{◌≡◌, ◌+◌, ◌-◌, ◌^◌, ◌++◌, ◌∷◌, [], refl, sym, ◌∙◌, ap, arith, length, length-append, map}
use Rattle.std.proofs.lemmas.List.FromFn.{length-map-range_with_len}
use Rattle.std.specs.List.{range_with_len}
use Rattle.periodic_runs.specs.Periods.{expected}
use Rattle.periodic_runs.proofs.PeriodLaws.{first-places}
use Rattle.periodic_runs.proofs.RunLaws.{one-more}
use Rattle.periodic_runs.proofs.repeated.Repeated.push.Goals as goal

pub push-requires : goal.push-requires
push-requires c =
    let r = c.self.inside in
    let len = length-map-range_with_len (expected r.front r.gains.items r.period) 0 r.len in
    omega (arith, c.requires, len, ap length c.self.view_is, c.self.invariant.first (omega (arith, c.if-self.true)))

pub returns-then-self : goal.returns-then-self
returns-then-self c =
    let r = c.self.inside in
    let place = c.args.place in
    let first : length r.front ≡ r.len = c.self.invariant.first (omega (arith, c.if-self.true)) in
    let more : length c.push.new.self ≡ r.len + 1 = omega (arith, first, ap length c.in_ok-push.ensures.more, length-append r.front (place ∷ [])) in
    first-places c.push.new.self c.count.new.gains.items r.period (r.len + 1) (omega (arith, c.if-self.true)) more
    ∙ c.in_ok-push.ensures.more
    ∙ ap (λ l. l ++ place ∷ []) (sym (first-places r.front r.gains.items r.period r.len (omega (arith, c.if-self.true)) first) ∙ c.self.view_is)

pub overflow_add-self-then-is_same : goal.overflow_add-self-then-is_same
overflow_add-self-then-is_same c =
    let r = c.self.inside in
    let len = length-map-range_with_len (expected r.front r.gains.items r.period) 0 r.len in
    omega (arith, c.requires, len, ap length c.self.view_is)

pub returns-then-is_same : goal.returns-then-is_same
returns-then-is_same c =
    let r = c.self.inside in
    one-more (expected r.front r.gains.items r.period) c.args.self.now c.args.place r.len c.self.view_is
    (sym (c.expected.ensures ∙ ap (λ gains. expected r.front gains r.period r.len) c.deref.ensures.value) ∙ c.if-is_same.ensures refl)

pub unpacked-requires-clause-len : goal.unpacked-requires-clause-len
unpacked-requires-clause-len c =
    let r = c.self.inside in
    let len = length-map-range_with_len (expected r.front r.gains.items r.period) 0 r.len in
    omega (arith, c.requires, len, ap length c.self.view_is)

pub overflow_add-self-2 : goal.overflow_add-self-2
overflow_add-self-2 c =
    let r = c.self.inside in
    let len = length-map-range_with_len (expected r.front r.gains.items r.period) 0 r.len in
    omega (arith, c.requires, len, ap length c.self.view_is)

pub invariant_of-self-2 : goal.invariant_of-self-2
invariant_of-self-2 c =
    let r = c.self.inside in
    let place = c.args.place in
    let all : c.in_ok-all.all ≡ c.args.self.now =
    c.in_ok-all.ensures ∙ ap (λ gains. map (expected r.front gains r.period) (range_with_len 0 r.len)) c.deref-2.ensures.value ∙ c.self.view_is in
    let len = length-map-range_with_len (expected r.front r.gains.items r.period) 0 r.len in
    record {
      some = omega arith;
      first = λ few.
          omega (arith, ap length all, len, ap length c.self.view_is, ap length c.in_ok-push-2.ensures.more, length-append c.in_ok-all.all (place ∷ []));
    }

pub returns : goal.returns
returns c =
    let r = c.self.inside in
    let place = c.args.place in
    let all : c.in_ok-all.all ≡ c.args.self.now =
    c.in_ok-all.ensures ∙ ap (λ gains. map (expected r.front gains r.period) (range_with_len 0 r.len)) c.deref-2.ensures.value ∙ c.self.view_is in
    let len = length-map-range_with_len (expected r.front r.gains.items r.period) 0 r.len in
    let more : length c.push-2.new.self ≡ r.len + 1 =
    omega (arith, ap length all, len, ap length c.self.view_is, ap length c.in_ok-push-2.ensures.more, length-append c.in_ok-all.all (place ∷ [])) in
    first-places c.push-2.new.self r.gains.items (2 ^ 32 - 1) (r.len + 1) (omega (arith, c.requires, len, ap length c.self.view_is)) more
    ∙ c.in_ok-push-2.ensures.more
    ∙ ap (λ l. l ++ place ∷ []) all
