use Rattle.tuple_values.specs.Views.{statement}
use Rattle.part_steps.proofs.Alone.{computes-all}
use Rattle.part_steps.proofs.computing.PartReads.alone.Goals as goal

pub returns : goal.returns
returns c tuple lt =
    let p = c.args.self.now in
    computes-all p.owners.now.layouts p.owners.now.nodes c.requires c.are_dealt.ensures p.who (statement p.statement.now) tuple
