use Rattle.std.proofs.Common.{get_or, take, inl, inr, subst}
use Rattle.std.proofs.lemmas.List.{take_more}
use Rattle.pair_messages.specs.declared.classes.Class.{Class}
use Rattle.pair_messages.specs.Classes.{InSome}
use Rattle.pair_messages.proofs.ClassLaws.{some-at, some-split}
use Rattle.pair_messages.proofs.members.first_passing.Goals as goal

abbrev no_place : Class
no_place = record { first = 0; stride = 0; count = 0 }

pub returns-in-Some-clause-some : goal.returns-in-Some-clause-some
returns-in-Some-clause-some c =
    (some-at c.args.classes.now c.loop-class.class-index no_place c.in-Some.place c.loop-class-test.true c.in-Some.ensures.some.0, c.in-Some.ensures.some.1)

pub loop-class-preserved : goal.loop-class-preserved
loop-class-preserved c x i =
    let n = c.loop-class.class-index in
    let cs = c.args.classes.now in
    elim (some-split (take n cs) (get_or cs n no_place) x (subst (λ l. InSome l x) (take_more cs n no_place c.loop-class-test.true) i)) [
      | inl h ↦ c.loop-class.invariant x h
      | inr h ↦ c.in_default.ensures.none x h
    ]
