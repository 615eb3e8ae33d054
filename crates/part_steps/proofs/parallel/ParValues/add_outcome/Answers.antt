use Rattle.std.proofs.Common.{◌∙◌}
use Rattle.slot_values.specs.KeptFaults.{kepts}
use Rattle.part_steps.specs.Gathered.{after_of}
use Rattle.part_steps.specs.Stores.{stored}
use Rattle.part_steps.proofs.StripLaws.{kept-over, on-ok, unwritten, written-over}
use Rattle.part_steps.proofs.parallel.ParValues.add_outcome.Goals as goal

pub returns-in-None-clause-stores : goal.returns-in-None-clause-stores
returns-in-None-clause-stores c ps = unwritten (after_of c.args.gathered.now) c.args.s c.args.outcome c.requires c.in-None.is (stored c.args.self.now.stores ps)

pub returns-in-None-clause-fault : goal.returns-in-None-clause-fault
returns-in-None-clause-fault c number = kept-over (after_of c.args.gathered.now) c.args.s c.args.outcome c.requires number (kepts c.args.self.now.fault)

pub returns-in-Some-clause-stores : goal.returns-in-Some-clause-stores
returns-in-Some-clause-stores c =
    on-ok c.add_line.result (λ h ps. h ps ∙ written-over (after_of c.args.gathered.now) c.args.s c.args.outcome c.requires c.in-Some.line c.in-Some.is (stored c.args.self.now.stores ps)) c.add_line.ensures

pub returns-in-Some-clause-fault : goal.returns-in-Some-clause-fault
returns-in-Some-clause-fault c = on-ok c.add_line.result (λ h number. kept-over (after_of c.args.gathered.now) c.args.s c.args.outcome c.requires number (kepts c.args.self.now.fault)) c.add_line.ensures
