use Rattle.std.proofs.Common.{◌∙◌, ap}
use Rattle.part_steps.specs.Gathered.{after_of}
use Rattle.part_steps.specs.Strips.{joined_values}
use Rattle.slot_values.specs.KeptFaults.{kepts}
use Rattle.part_steps.proofs.StripLaws.{joined-over, kept-over}
use Rattle.part_steps.proofs.reductions.ReduceValues.add_outcome.Goals as goal

pub returns-clause-value : goal.returns-clause-value
returns-clause-value c =
    c.joined_values-self.ensures ∙ ap (λ vs. joined_values c.args.op vs c.args.self.now.value) c.deref.ensures.value
    ∙ joined-over (after_of c.args.gathered.now) c.args.s c.args.outcome.now c.requires c.args.op c.args.self.now.value

pub returns-clause-fault : goal.returns-clause-fault
returns-clause-fault c number = kept-over (after_of c.args.gathered.now) c.args.s c.args.outcome.now c.requires number (kepts c.args.self.now.fault)
