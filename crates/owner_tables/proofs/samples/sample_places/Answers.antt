use Rattle.std.proofs.Common.{◌<◌, ap, arith}
use Rattle.owner_tables.specs.Columns.{part_in}
use Rattle.owner_tables.proofs.SampleLaws.{met-more, none-met}
use Rattle.owner_tables.proofs.samples.sample_places.Goals as goal

pub loop-place-init : goal.loop-place-init
loop-place-init c = none-met (part_in c.args.one.now) (part_in c.args.other.now) c.new-places.result.items c.in_ok-met.met.items c.new-places.ensures.items c.in_ok-met.ensures

pub loop-place-preserved : goal.loop-place-preserved
loop-place-preserved c =
    let place = c.loop-place.place in
    let inside : place < c.args.one.now.extent = omega (arith, c.loop-place-test.true, c.extent-place-end.ensures) in
    met-more (part_in c.args.one.now) (part_in c.args.other.now) place c.place.result.part c.place-in-loop-place.result.part c.loop-place.places.items c.meet.new.places.items
    c.loop-place.met.items c.meet.new.met.items (c.requires.few place inside) (c.requires.few_others place inside) c.loop-place.invariant
    (ap (λ p. p.part) c.place.ensures) (ap (λ p. p.part) c.place-in-loop-place.ensures) c.in_ok-meet.ensures.places c.in_ok-meet.ensures.met
