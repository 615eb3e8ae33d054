use Rattle.std.proofs.Common.{◌+◌, ◌-◌, ◌/◌}
use Rattle.pair_messages.proofs.ClassLaws.{is-class}
use Rattle.pair_messages.proofs.classes.class_of.Goals as goal

pub returns-clause-value : goal.returns-clause-value
returns-clause-value c =
    is-class c.args.places.now (c.classes-classes.ensures.repeat c.requires.few.0 c.requires.few.1.0 c.requires.few.1.1.0) c.args.class c.requires.class c.period.ensures.some
    (record { first = c.place.result; stride = c.period.result; count = (c.len.result - c.args.class - 1) / c.classes-classes.result + 1 })
    c.place.ensures c.period.ensures.value (λ i. (c.len.ensures i - c.args.class - 1) / c.classes-classes.ensures.value i + 1)
