use Rattle.std.proofs.Common.{◌≡◌, ◌+◌, ◌-◌, ◌∙◌, ap, take, drop, arith}
use Rattle.part_steps.specs.Computed.{keep_of, over, store_of}
use Rattle.part_steps.specs.Gathered.{after_of}
use Rattle.slot_values.specs.KeptFaults.{kepts}
use Rattle.part_steps.specs.Stores.{stored}
use Rattle.part_steps.proofs.StripLaws.{over-taken}
use Rattle.part_steps.proofs.parallel.ParValues.add_run.Goals as goal

pub loop-done-preserved : goal.loop-done-preserved
loop-done-preserved c =
    let b = after_of c.args.gathered.now in
    let n = c.strip_from-s.result.count in
    let done = c.loop-done.done in
    let within = c.strip_from-s.ensures.tuples.within in
    let count : (c.loop-done.done + c.strip_from-s.result.count) - c.loop-done.done ≡ c.strip_from-s.result.count = omega arith in
    record {
      within = within;
      stores = λ ps. over-taken (store_of (after_of c.args.gathered.now)) c.args.run.now c.loop-done.done c.strip_from-s.result.count (stored c.loop-done.self.stores ps)
          (stored c.add_strip.new.self.stores ps) (over (store_of (after_of c.args.gathered.now)) c.args.run.now (stored c.args.self.now.stores ps))
          (c.in_ok-add_strip.ensures.stores ps ∙ ap (λ n. over (store_of (after_of c.args.gathered.now)) (take n (drop c.loop-done.done c.args.run.now)) (stored c.loop-done.self.stores ps)) count)
          (c.loop-done.invariant.stores ps);
      fault = over-taken (keep_of (after_of c.args.gathered.now) c.args.number) c.args.run.now c.loop-done.done c.strip_from-s.result.count (kepts c.loop-done.self.fault)
          (kepts c.add_strip.new.self.fault) (over (keep_of (after_of c.args.gathered.now) c.args.number) c.args.run.now (kepts c.args.self.now.fault))
          (c.in_ok-add_strip.ensures.fault ∙ ap (λ n. over (keep_of (after_of c.args.gathered.now) c.args.number) (take n (drop c.loop-done.done c.args.run.now)) (kepts c.loop-done.self.fault)) count)
          c.loop-done.invariant.fault;
    }
