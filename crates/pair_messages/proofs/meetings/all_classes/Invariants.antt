use Rattle.std.proofs.Common.{ℕ, Bool, All}
use Rattle.owned_places.specs.Candidates.{AreCandidates}
use Rattle.pair_messages.specs.Classes.{InFirst, InSome, IsBelow}
use Rattle.pair_messages.proofs.meetings.all_classes.Given as goal

-- the places that are in one of the classes so far
abbrev pub invariant-loop-class : goal.invariant-loop-class
invariant-loop-class l = record {
  every : (x : ℕ) → InFirst l.places l.class x → InSome l.classes.items x;
  below : (passes : ℕ → Bool) (extent : ℕ) → AreCandidates passes extent l.places → All (IsBelow extent) l.classes.items;
}
