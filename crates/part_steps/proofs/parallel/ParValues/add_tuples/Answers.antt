use Rattle.std.proofs.Common.{◌≤◌, ◌<◌, length, rules}
use Rattle.part_steps.specs.Computed.{keep_of, store_of}
use Rattle.part_steps.specs.Gathered.{after_of}
use Rattle.slot_values.specs.KeptFaults.{kepts}
use Rattle.part_steps.specs.Stores.{stored}
use Rattle.part_steps.proofs.StripLaws.{over-one-more}
use Rattle.part_steps.proofs.parallel.ParValues.add_tuples.Goals as goal

pub loop-index-preserved : goal.loop-index-preserved
loop-index-preserved c =
    let low : c.args.from ≤ c.loop-index.index = search rules in
    let inside : c.loop-index.index < length c.args.run.now = search rules in
    record {
      stores = λ ps. over-one-more (store_of (after_of c.args.gathered.now)) c.args.run.now c.args.from c.loop-index.index c.at.result (stored c.loop-index.self.stores ps)
          (stored c.add_tuple.new.self.stores ps) (stored c.args.self.now.stores ps) low inside c.at.ensures (c.in_ok-add_tuple.ensures.stores ps) (c.loop-index.invariant.stores ps);
      fault = over-one-more (keep_of (after_of c.args.gathered.now) c.args.number) c.args.run.now c.args.from c.loop-index.index c.at.result (kepts c.loop-index.self.fault)
          (kepts c.add_tuple.new.self.fault) (kepts c.args.self.now.fault) low inside c.at.ensures c.in_ok-add_tuple.ensures.fault c.loop-index.invariant.fault;
    }
