use Rattle.std.proofs.Common.{ℕ, Bool, All}
use Rattle.owned_places.specs.Candidates.{AreCandidates}
use Rattle.pair_messages.specs.Classes.{InFirst, InSome, IsBelow, IsPlaceOf}
use Rattle.pair_messages.proofs.meetings.meetings.Given as goal

-- the places that are in one of the classes so far
abbrev pub invariant-loop-class : goal.invariant-loop-class
invariant-loop-class l = record {
  every : (x : ℕ) → InFirst l.a l.class x → IsPlaceOf l.b x → InSome l.classes.items x;
  below : (passes : ℕ → Bool) (extent : ℕ) → AreCandidates passes extent l.a → All (IsBelow extent) l.classes.items;
}
