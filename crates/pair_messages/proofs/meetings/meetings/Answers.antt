use Rattle.std.proofs.Common.{inl, inr}
use Rattle.pair_messages.proofs.ClassLaws.{class-below, is-short, next-first}
use Rattle.pair_messages.proofs.meetings.meetings.Goals as goal

pub add_meetings-requires-clause-class : goal.add_meetings-requires-clause-class
add_meetings-requires-clause-class c =
    is-short c.requires.one.0 c.requires.one.1.0 c.args.a.now c.loop-class.class c.class_of.result c.class_of.ensures.value c.requires.one.1.1.0 c.requires.one.1.1.1
    c.class_of.ensures.stride c.requires.short_one

pub loop-class-preserved : goal.loop-class-preserved
loop-class-preserved c = record {
  every = λ x first other. elim (next-first c.args.a.now c.loop-class.class c.class_of.result c.class_of.ensures.value x first) [
    | inl h ↦ c.in_ok-add_meetings.ensures.kept x (c.loop-class.invariant.every x h other)
    | inr h ↦ c.in_ok-add_meetings.ensures.every x h other
  ];
  below = λ passes extent are. c.in_ok-add_meetings.ensures.below extent
      (class-below passes extent c.args.a.now c.loop-class.class c.class_of.result c.class_of.ensures.value are) (c.loop-class.invariant.below passes extent are);
}
