use Rattle.std.proofs.Common.{◌≡◌, sym, ◌∙◌, ap, rules}
use Rattle.machine_steps.specs.Layout.{sizes}
use Rattle.node_program.proofs.FitLaws.{remapped-sizes}
use Rattle.node_machine.proofs.node.Node.redistribution.Goals as goal

pub held_or_new-requires-clause-sizes : goal.held_or_new-requires-clause-sizes
held_or_new-requires-clause-sizes c =
    let rows : c.self.inside.owners.layouts ≡ c.args.self.now.layouts = search rules in
    ap sizes rows ∙ sym (ap sizes c.requires.layouts ∙ remapped-sizes c.requires.new c.args.self.now.layouts)
