use Rattle.std.proofs.Common.{◌∙◌}
use Rattle.std.specs.Prelude.{pos}
use Rattle.machine_steps.specs.Node.{local_write}
use Rattle.part_steps.specs.Stores.{stored}
use Rattle.part_steps.proofs.StripLaws.{written-more}
use Rattle.part_steps.proofs.stores.Stores.add_each.Goals as goal

pub loop-index-preserved : goal.loop-index-preserved
loop-index-preserved c pieces =
    c.in_ok-add.ensures pieces
    ∙ (λ i. local_write c.args.owners.now.layouts c.args.id (c.spot_in.ensures i) (c.value_in.ensures i) (c.loop-index.invariant pieces i))
    ∙ written-more c.args.owners.now.layouts c.args.id c.args.line c.args.line.step c.args.values.now c.loop-index.index (pos 0) (stored c.args.self.now pieces) c.loop-index-test.true
