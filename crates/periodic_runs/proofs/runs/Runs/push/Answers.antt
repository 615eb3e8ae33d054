use Rattle.std.proofs.Common.{rules, refl, sym, ◌∙◌, ap, arith, length}
use Rattle.std.proofs.lemmas.List.FromFn.{length-map-range_with_len}
use Rattle.periodic_runs.specs.Runs.{place_in}
use Rattle.periodic_runs.proofs.RunLaws.{one-more, run-more}
use Rattle.periodic_runs.proofs.runs.Runs.push.Goals as goal

pub overflow_add-self : goal.overflow_add-self
overflow_add-self c =
    let len = length-map-range_with_len (place_in c.self.inside.runs.items) 0 c.self.inside.len in
    omega (arith, c.requires, len, ap length c.self.view_is)

pub returns-then-is_same-clause-more : goal.returns-then-is_same-clause-more
returns-then-is_same-clause-more c =
    let runs = c.self.inside.runs.items in
    let len = c.self.inside.len in
    one-more (place_in runs) c.args.self.now c.args.place len c.self.view_is
    (sym (c.place_in.ensures ∙ ap (λ rs. place_in rs len) c.deref.ensures.value) ∙ c.if-is_same.ensures refl)

pub overflow_add-self-2 : goal.overflow_add-self-2
overflow_add-self-2 c =
    let len = length-map-range_with_len (place_in c.self.inside.runs.items) 0 c.self.inside.len in
    omega (arith, c.requires, len, ap length c.self.view_is)

pub returns-clause-more : goal.returns-clause-more
returns-clause-more c = run-more c.self.inside.runs.items c.push.new.self.items c.self.inside.len c.args.place c.args.self.now c.in_ok-push.ensures.items
    (search rules) c.self.view_is
