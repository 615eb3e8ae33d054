use Rattle.std.proofs.Common.{inl, inr}
use Rattle.pair_messages.proofs.ClassLaws.{is-short, next-first}
use Rattle.pair_messages.proofs.meetings.add_meetings.Goals as goal

pub add_meeting-requires-clause-other : goal.add_meeting-requires-clause-other
add_meeting-requires-clause-other c =
    is-short c.requires.few.0 c.requires.few.1.0 c.args.places.now c.loop-other.other c.class_of.result c.class_of.ensures.value c.requires.few.1.1.0 c.requires.few.1.1.1
    c.class_of.ensures.stride c.requires.short

pub loop-other-preserved : goal.loop-other-preserved
loop-other-preserved c = record {
  kept = λ x i. c.in_ok-add_meeting.ensures.kept x (c.loop-other.invariant.kept x i);
  every = λ x i first. elim (next-first c.args.places.now c.loop-other.other c.class_of.result c.class_of.ensures.value x first) [
    | inl h ↦ c.in_ok-add_meeting.ensures.kept x (c.loop-other.invariant.every x i h)
    | inr h ↦ c.in_ok-add_meeting.ensures.every x i h
  ];
  below = λ extent one all. c.in_ok-add_meeting.ensures.below extent one (c.loop-other.invariant.below extent one all);
}
