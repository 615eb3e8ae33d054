use Rattle.std.proofs.Common.{length-drop, arith}
use Rattle.std.proofs.Math.Seq.{take-add}
use Rattle.std.proofs.lemmas.List.{take_rest}
use Rattle.hpf_ports.proofs.Pieces.{AreAppended-more}
use Rattle.hpf_ports.proofs.write.write_all.Goals as goal

pub loop-done-preserved : goal.loop-done-preserved
loop-done-preserved g c = record {
  took =
      let taken = rw (take_rest c.args.bytes.now c.loop-done.done) at c.in_ok-done.ensures.took in
      rw (take-add c.loop-done.done c.in_ok-done.field-0 c.args.bytes.now) (AreAppended-more _ _ _ _ _ c.loop-done.invariant.took taken);
  within = omega (arith, length-drop c.loop-done.done c.args.bytes.now, c.in_ok-done.ensures.fits);
  count = omega arith;
}
