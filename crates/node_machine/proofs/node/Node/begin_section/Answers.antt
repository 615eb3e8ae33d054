use Rattle.std.proofs.Common.{sym, ◌∙◌, ap}
use Rattle.machine_steps.specs.Node.{begun_by, print_begun, settled}
use Rattle.code_meaning.specs.FaultValues.{fault_values}
use Rattle.node_program.specs.PrintedLines.{line_of}
use Rattle.node_machine.proofs.node.Node.begin_section.Goals as goal

pub returns-clause-ok : goal.returns-clause-ok
returns-clause-ok c =
    let a = c.args.self.now in
    let o = c.requires.is in
    c.open.ensures
    ∙ (λ i. settled (record a { received = c.in_ok-received.ensures.items i }) c.args.opening.outbox.items c.args.opening.inbox.items)
    ∙ o.opening ∙ ap (λ x. print_begun a.nodes x line_of a) (sym o.prints.item) ∙ ap (λ x. begun_by fault_values a.nodes x a) (sym o.prints.is)
