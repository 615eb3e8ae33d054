use Rattle.std.proofs.Common.{◌≡◌, ◌+◌, ◌<◌, length, drop, sym, subst, arith}
use Rattle.part_steps.specs.Computed.{join_of, keep_of, over}
use Rattle.slot_values.specs.KeptFaults.{kepts}
use Rattle.part_steps.specs.After.{fault_below, joined_below, tuples}
use Rattle.part_steps.specs.Gathered.{after_of}
use Rattle.part_steps.proofs.Computed.{are-computed, fault-over, joined-over, over-run, run-within}
use Rattle.part_steps.proofs.reductions.gathered_values.Goals as goal

pub loop-done-init : goal.loop-done-init
loop-done-init c =
    let b = after_of c.args.gathered.now in
    let computed = c.computed-computed.result.now in
    record {
      references = c.in_ok-references.ensures;
      within = omega arith;
      value = joined-over b computed c.computed-computed.ensures c.args.op;
      fault = fault-over b computed c.computed-computed.ensures c.args.number;
    }

pub add_run-requires-clause-computed : goal.add_run-requires-clause-computed
add_run-requires-clause-computed c = are-computed (after_of c.args.gathered.now) c.computed-computed.result.now c.computed-computed.ensures c.loop-done.done c.run-run.result c.run-run.ensures.tuples

pub loop-done-preserved : goal.loop-done-preserved
loop-done-preserved c =
    let b = after_of c.args.gathered.now in
    let computed = c.computed-computed.result.now in
    let done = c.loop-done.done in
    let run = c.run-run.result in
    let inside : done < length computed = omega arith in
    let most = run-within computed done run inside c.run-run.ensures.tuples in
    let long = c.len-count.ensures in
    record {
      references = c.loop-done.invariant.references;
      within = omega (arith, most, long);
      value = subst (λ n. over (join_of b c.args.op) (drop (done + n) computed) c.add_run.new.self.value ≡ joined_below b c.args.op (tuples b)) (sym long)
          (over-run (join_of b c.args.op) computed done run c.loop-done.values.value c.add_run.new.self.value (joined_below b c.args.op (tuples b)) c.run-run.ensures.tuples
          c.in_ok-add_run.ensures.value c.loop-done.invariant.value);
      fault = subst (λ n. over (keep_of b c.args.number) (drop (done + n) computed) (kepts c.add_run.new.self.fault) ≡ fault_below b c.args.number (tuples b)) (sym long)
          (over-run (keep_of b c.args.number) computed done run (kepts c.loop-done.values.fault) (kepts c.add_run.new.self.fault) (fault_below b c.args.number (tuples b)) c.run-run.ensures.tuples
          c.in_ok-add_run.ensures.fault c.loop-done.invariant.fault);
    }
