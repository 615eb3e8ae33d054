use Rattle.slot_values.specs.KeptFaults.{kepts}
use Rattle.part_steps.specs.Computed.{keep_of, store_of}
use Rattle.part_steps.specs.Gathered.{after_of}
use Rattle.part_steps.specs.Stores.{stored}
use Rattle.part_steps.proofs.StripLaws.{on-ok, over-strip}
use Rattle.part_steps.proofs.parallel.ParValues.add_strip.Goals as goal

pub returns-in-Some-clause-stores : goal.returns-in-Some-clause-stores
returns-in-Some-clause-stores c =
    on-ok c.add_outcome.result (λ h ps. over-strip (store_of (after_of c.args.gathered.now)) c.args.run.now c.args.from c.args.end c.args.s (stored c.args.self.now.stores ps)
    (stored c.add_outcome.new.self.stores ps) c.requires.strip c.requires.end (h ps)) c.add_outcome.ensures.stores

pub returns-in-Some-clause-fault : goal.returns-in-Some-clause-fault
returns-in-Some-clause-fault c =
    on-ok c.add_outcome.result (λ h. over-strip (keep_of (after_of c.args.gathered.now) c.args.number) c.args.run.now c.args.from c.args.end c.args.s (kepts c.args.self.now.fault)
    (kepts c.add_outcome.new.self.fault) c.requires.strip c.requires.end (h c.args.number)) c.add_outcome.ensures.fault
