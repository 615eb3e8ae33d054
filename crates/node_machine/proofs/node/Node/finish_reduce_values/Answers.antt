use Rattle.std.proofs.Common.{sym, ◌∙◌, ap}
use Rattle.machine_steps.specs.Node.{done_by, ready, reduce_done}
use Rattle.code_meaning.specs.FaultValues.{fault_values}
use Rattle.code_meaning.specs.Parallel.{fold_of}
use Rattle.node_machine.proofs.node.Node.finish_reduce_values.Goals as goal

pub returns-clause-ok : goal.returns-clause-ok
returns-clause-ok c =
    let a = c.args.self.now in
    let r = c.requires in
    c.put_reduced.ensures ∙ (λ i. ready a.nodes (record a { substep = 1; kept = r.kept i; parts = c.in_ok-parts.ensures i; joined = r.value i }))
    ∙ ap (λ k. reduce_done fault_values a.nodes k r.tuples (fold_of r.op) r.slot a) (sym r.first)
    ∙ ap (λ x. done_by fault_values a.nodes x a) (sym r.is)
