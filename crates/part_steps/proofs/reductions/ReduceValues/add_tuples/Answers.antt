use Rattle.std.proofs.Common.{◌≤◌, ◌<◌, length, rules}
use Rattle.part_steps.specs.Computed.{join_of, keep_of}
use Rattle.part_steps.specs.Gathered.{after_of}
use Rattle.slot_values.specs.KeptFaults.{kepts}
use Rattle.part_steps.proofs.StripLaws.{over-one-more}
use Rattle.part_steps.proofs.reductions.ReduceValues.add_tuples.Goals as goal

pub loop-index-preserved : goal.loop-index-preserved
loop-index-preserved c =
    let low : c.args.from ≤ c.loop-index.index = search rules in
    let inside : c.loop-index.index < length c.args.run.now = search rules in
    record {
      value = over-one-more (join_of (after_of c.args.gathered.now) c.args.op) c.args.run.now c.args.from c.loop-index.index c.at.result c.loop-index.self.value
          c.add_tuple.new.self.value c.args.self.now.value low inside c.at.ensures c.in_ok-add_tuple.ensures.value c.loop-index.invariant.value;
      fault = over-one-more (keep_of (after_of c.args.gathered.now) c.args.number) c.args.run.now c.args.from c.loop-index.index c.at.result (kepts c.loop-index.self.fault)
          (kepts c.add_tuple.new.self.fault) (kepts c.args.self.now.fault) low inside c.at.ensures c.in_ok-add_tuple.ensures.fault c.loop-index.invariant.fault;
    }
