use Rattle.std.proofs.Common.{sym, ◌∙◌, ap}
use Rattle.machine_steps.specs.Machine.{on}
use Rattle.machine_steps.specs.Node.{done_by, ready}
use Rattle.code_meaning.specs.FaultValues.{fault_values}
use Rattle.node_machine.proofs.node.Node.finish_par.Goals as goal

pub returns-clause-ok : goal.returns-clause-ok
returns-clause-ok c =
    let a = c.args.self.now in
    let r = c.requires.is in
    c.put_values.ensures
    ∙ (λ i. ready a.nodes (record a { control = on a.control; substep = 0; pieces = r.pieces i; kept = r.kept i; parts = c.in_ok-parts.ensures i }))
    ∙ ap (λ x. done_by fault_values a.nodes x a) (sym r.is)
