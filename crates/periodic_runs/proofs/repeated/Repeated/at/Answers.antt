use Rattle.std.proofs.Common.{rules, ◌^◌, ◌<◌, sym, ◌∙◌, ap, arith, get_or, length}
use Rattle.std.proofs.lemmas.List.FromFn.{get_or-map-range_with_len, length-map-range_with_len}
use Rattle.periodic_runs.specs.Periods.{expected}
use Rattle.periodic_runs.specs.Runs.{no_place}
use Rattle.periodic_runs.proofs.repeated.Repeated.at.Goals as goal

pub overflow_cast-number : goal.overflow_cast-number
overflow_cast-number c =
    let r = c.self.inside in
    let len = length-map-range_with_len (expected r.front r.gains.items r.period) 0 r.len in
    let fits : r.len < 2 ^ 32 = search rules in
    omega (arith, c.requires, len, ap length c.self.view_is, fits)

pub returns : goal.returns
returns c =
    let r = c.self.inside in
    let number = c.args.number in
    let made = expected r.front r.gains.items r.period in
    let inside : number < r.len = omega (arith, c.requires, length-map-range_with_len made 0 r.len, ap length c.self.view_is) in
    c.expected.ensures ∙ ap (λ gains. expected r.front gains r.period number) c.deref.ensures.value
    ∙ sym (get_or-map-range_with_len made 0 r.len number number no_place inside (omega arith))
    ∙ ap (λ l. get_or l number no_place) c.self.view_is
