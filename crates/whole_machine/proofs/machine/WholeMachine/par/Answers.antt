use Rattle.std.proofs.Common.{sym, ◌∙◌, ap}
use Rattle.machine_steps.specs.Machine.{on, step_by}
use Rattle.whole_machine.proofs.machine.WholeMachine.par.Goals as goal

pub returns-clause-ok : goal.returns-clause-ok
returns-clause-ok c =
    let m = c.args.self.now in
    let r = c.in_ok-values.ensures in
    c.put_values.ensures
    ∙ (λ i. record m { control = on m.control; substep = 0; rows = r.rows i; kept = r.kept i; parts = c.in_ok-parts.ensures i })
    ∙ ap (λ x. step_by x m) (sym r.is)
