use Rattle.std.proofs.Common.{◌≡◌, ◌+◌, ◌-◌, ◌∙◌, ap, take, drop, arith}
use Rattle.part_steps.specs.Computed.{join_of, keep_of, over}
use Rattle.part_steps.specs.Gathered.{after_of}
use Rattle.slot_values.specs.KeptFaults.{kepts}
use Rattle.part_steps.proofs.StripLaws.{over-taken}
use Rattle.part_steps.proofs.reductions.ReduceValues.add_run.Goals as goal

pub loop-done-preserved : goal.loop-done-preserved
loop-done-preserved c =
    let within = c.strip_from-s.ensures.tuples.within in
    let count : (c.loop-done.done + c.strip_from-s.result.count) - c.loop-done.done ≡ c.strip_from-s.result.count = omega arith in
    record {
      within = within;
      value = over-taken (join_of (after_of c.args.gathered.now) c.args.op) c.args.run.now c.loop-done.done c.strip_from-s.result.count c.loop-done.self.value
          c.add_strip.new.self.value (over (join_of (after_of c.args.gathered.now) c.args.op) c.args.run.now c.args.self.now.value)
          (c.in_ok-add_strip.ensures.value ∙ ap (λ n. over (join_of (after_of c.args.gathered.now) c.args.op) (take n (drop c.loop-done.done c.args.run.now)) c.loop-done.self.value) count)
          c.loop-done.invariant.value;
      fault = over-taken (keep_of (after_of c.args.gathered.now) c.args.number) c.args.run.now c.loop-done.done c.strip_from-s.result.count (kepts c.loop-done.self.fault)
          (kepts c.add_strip.new.self.fault) (over (keep_of (after_of c.args.gathered.now) c.args.number) c.args.run.now (kepts c.args.self.now.fault))
          (c.in_ok-add_strip.ensures.fault ∙ ap (λ n. over (keep_of (after_of c.args.gathered.now) c.args.number) (take n (drop c.loop-done.done c.args.run.now)) (kepts c.loop-done.self.fault)) count)
          c.loop-done.invariant.fault;
    }
