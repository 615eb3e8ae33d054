use Rattle.slot_values.specs.KeptFaults.{kepts}
use Rattle.part_steps.specs.Computed.{join_of, keep_of}
use Rattle.part_steps.specs.Gathered.{after_of}
use Rattle.part_steps.proofs.StripLaws.{over-strip}
use Rattle.part_steps.proofs.reductions.ReduceValues.add_strip.Goals as goal

pub returns-in-Some-clause-value : goal.returns-in-Some-clause-value
returns-in-Some-clause-value c =
    over-strip (join_of (after_of c.args.gathered.now) c.args.op) c.args.run.now c.args.from c.args.end c.args.s c.args.self.now.value c.add_outcome.new.self.value c.requires.strip c.requires.end
    c.add_outcome.ensures.value

pub returns-in-Some-clause-fault : goal.returns-in-Some-clause-fault
returns-in-Some-clause-fault c =
    over-strip (keep_of (after_of c.args.gathered.now) c.args.number) c.args.run.now c.args.from c.args.end c.args.s (kepts c.args.self.now.fault) (kepts c.add_outcome.new.self.fault)
    c.requires.strip c.requires.end (c.add_outcome.ensures.fault c.args.number)
