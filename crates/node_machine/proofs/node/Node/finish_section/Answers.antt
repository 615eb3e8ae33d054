use Rattle.std.proofs.Common.{suc, sym, ◌∙◌, ap}
use Rattle.machine_steps.specs.Node.{done_by, print_done, ready}
use Rattle.code_meaning.specs.FaultValues.{fault_values}
use Rattle.node_machine.proofs.PrintLaws.{same-at-root}
use Rattle.node_machine.proofs.node.Node.finish_section.Goals as goal

pub returns-clause-ok : goal.returns-clause-ok
returns-clause-ok c =
    let a = c.args.self.now in
    let r = c.requires in
    c.reset.ensures ∙ ap (λ x. ready x.nodes x) c.in_ok-print_bytes.ensures.ok
    ∙ ap (λ line. ready a.nodes (record a { substep = suc a.substep; line = line })) (same-at-root a.id a.line _ _ r.bytes)
    ∙ ap (λ x. print_done a.nodes x a) (sym r.prints.item) ∙ ap (λ x. done_by fault_values a.nodes x a) (sym r.prints.is)
