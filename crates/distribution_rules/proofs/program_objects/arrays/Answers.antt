use Rattle.std.proofs.Common.{◌<◌, subst}
use Rattle.distribution_rules.proofs.ProgramArrays.{arrays_next}
use Rattle.distribution_rules.proofs.program_objects.arrays.Goals as goal

pub loop-place-preserved : goal.loop-place-preserved
loop-place-preserved c =
    arrays_next c.args.names.now c.loop-place.place c.loop-place.objects.items c.push_array.new.objects.items
    (subst (λ m. c.loop-place.place < m) c.len-place-end.ensures c.loop-place-test.true) c.in_ok-push_array.ensures c.loop-place.invariant
