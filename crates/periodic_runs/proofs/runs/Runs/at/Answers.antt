use Rattle.std.proofs.Common.{sym, ◌∙◌, ap, arith, get_or, length}
use Rattle.std.proofs.lemmas.List.{get_or_past}
use Rattle.std.proofs.lemmas.List.FromFn.{get_or-map-range_with_len, length-map-range_with_len}
use Rattle.periodic_runs.specs.Runs.{no_place, place_in}
use Rattle.periodic_runs.proofs.runs.Runs.at.Goals as goal

pub returns-then-number-self : goal.returns-then-number-self
returns-then-number-self c =
    let number = c.args.number in
    let runs = c.self.inside.runs.items in
    c.place_in.ensures ∙ ap (λ rs. place_in rs number) c.deref.ensures.value
    ∙ sym (get_or-map-range_with_len (place_in runs) 0 c.self.inside.len number number no_place c.if-number-self.true (omega arith))
    ∙ ap (λ l. get_or l number no_place) c.self.view_is

pub returns-else-number-self : goal.returns-else-number-self
returns-else-number-self c =
    let len = length-map-range_with_len (place_in c.self.inside.runs.items) 0 c.self.inside.len in
    sym (get_or_past c.args.self.now c.args.number no_place (omega (arith, c.if-number-self.false, len, ap length c.self.view_is)))
