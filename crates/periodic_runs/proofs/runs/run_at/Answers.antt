use Rattle.std.proofs.Common.{◌≡◌, ◌∷◌, ◌-◌, suc, sym, ◌∙◌, ap, arith, get_or}
use Rattle.periodic_runs.specs.Runs.{no_run}
use Rattle.periodic_runs.proofs.runs.run_at.Goals as goal

pub returns-then-count-eq0 : goal.returns-then-count-eq0
returns-then-count-eq0 c =
    let none : c.begun_at-count.result ≡ 0 = omega (arith, c.if-count-eq0.true) in
    sym (c.begun_at-count.ensures.last ∙ ap (λ n. get_or (no_run ∷ c.args.runs.now) n no_run) none)

pub returns-else-count-eq0 : goal.returns-else-count-eq0
returns-else-count-eq0 c =
    let count = c.begun_at-count.result in
    let some : count ≡ suc (count - 1) = omega (arith, c.if-count-eq0.false) in
    sym (c.begun_at-count.ensures.last ∙ ap (λ n. get_or (no_run ∷ c.args.runs.now) n no_run) some)
