use Rattle.std.proofs.Common.{◌≡◌, [], length, arith, rules}
use Rattle.array_meaning.specs.Sections.{extents}
use Rattle.code_meaning.specs.Forms.{selections_at}
use Rattle.node_code.specs.Texts.{subs}
use Rattle.node_program.proofs.FitLaws.{extents-few}
use Rattle.node_machine.proofs.node.Node.made_extents.Goals as goal

pub returns-clause-rank : goal.returns-clause-rank
returns-clause-rank c =
    let slots = c.args.self.now.control.slots in
    let over = subs c.args.over.now in
    let many : length c.in_ok-made.made.items ≡ length (extents (selections_at slots [] over)) = search rules in
    omega (arith, c.requires, many, extents-few slots over)
