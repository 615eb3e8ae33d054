use Rattle.std.proofs.Common.{◌∙◌}
use Rattle.whole_machine.proofs.machine.WholeMachine.begin_reduce.Goals as goal

pub returns-clause-ok : goal.returns-clause-ok
returns-clause-ok c =
    let m = c.args.self.now in
    let r = c.in_ok-values.ensures in
    c.put_reduced.ensures ∙ (λ i. record m { substep = 1; kept = r.kept i; parts = c.in_ok-parts.ensures i; joined = r.joined i })
