use Rattle.tuple_values.specs.Views.{statement}
use Rattle.tuple_values.proofs.AxisProgressions.{axis_is}
use Rattle.tuple_values.proofs.progressions.axis_values.Goals as goal

pub returns : goal.returns
returns c =
    axis_is c.args.s c.args.axis (statement c.args.w.now) c.in-Some.first.value c.in-Some-2.second.value c.in_ok-values.values.items c.requires
    (rw c.in-Some.is at c.in_ok-first.ensures) (rw c.in-Some-2.is at c.in_ok-second.ensures) c.all_by_two.ensures.fits c.in_ok-values.ensures.values
