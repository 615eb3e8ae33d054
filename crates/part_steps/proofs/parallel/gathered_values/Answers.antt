use Rattle.std.proofs.Common.{◌≡◌, ◌+◌, ◌<◌, length, drop, sym, ◌∙◌, ap, subst, arith}
use Rattle.part_steps.specs.Computed.{keep_of, over, store_of}
use Rattle.part_steps.specs.Gathered.{after_of}
use Rattle.slot_values.specs.KeptFaults.{kepts}
use Rattle.part_steps.specs.After.{fault_below, stored_below, tuples}
use Rattle.part_steps.specs.Stores.{stored}
use Rattle.part_steps.proofs.Computed.{are-computed, fault-over, over-run, run-within, stored-over}
use Rattle.part_steps.proofs.parallel.gathered_values.Goals as goal

pub loop-done-init : goal.loop-done-init
loop-done-init c =
    let b = after_of c.args.gathered.now in
    let computed = c.computed-computed.result.now in
    record {
      references = c.in_ok-references.ensures;
      within = omega arith;
      stores = λ ps. ap (over (store_of b) computed) (c.new.ensures ps) ∙ stored-over b computed c.computed-computed.ensures ps;
      fault = fault-over b computed c.computed-computed.ensures c.args.number;
    }

pub add_run-requires-clause-computed : goal.add_run-requires-clause-computed
add_run-requires-clause-computed c = are-computed (after_of c.args.gathered.now) c.computed-computed.result.now c.computed-computed.ensures c.loop-done.done c.run-run.result c.run-run.ensures.tuples

pub loop-done-preserved : goal.loop-done-preserved
loop-done-preserved c =
    let b = after_of c.args.gathered.now in
    let computed = c.computed-computed.result.now in
    let done = c.loop-done.done in
    let run = c.run-run.result in
    let inside : done < length computed = omega arith in
    let most = run-within computed done run inside c.run-run.ensures.tuples in
    let long = c.len-count.ensures in
    record {
      references = c.loop-done.invariant.references;
      within = omega (arith, most, long);
      stores = λ ps. subst (λ n. over (store_of b) (drop (done + n) computed) (stored c.add_run.new.self.stores ps) ≡ stored_below b (tuples b) ps) (sym long)
          (over-run (store_of b) computed done run (stored c.loop-done.values.stores ps) (stored c.add_run.new.self.stores ps) (stored_below b (tuples b) ps) c.run-run.ensures.tuples
          (c.in_ok-add_run.ensures.stores ps) (c.loop-done.invariant.stores ps));
      fault = subst (λ n. over (keep_of b c.args.number) (drop (done + n) computed) (kepts c.add_run.new.self.fault) ≡ fault_below b c.args.number (tuples b)) (sym long)
          (over-run (keep_of b c.args.number) computed done run (kepts c.loop-done.values.fault) (kepts c.add_run.new.self.fault) (fault_below b c.args.number (tuples b)) c.run-run.ensures.tuples
          c.in_ok-add_run.ensures.fault c.loop-done.invariant.fault);
    }
