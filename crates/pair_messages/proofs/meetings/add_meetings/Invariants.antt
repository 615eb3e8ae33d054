use Rattle.std.proofs.Common.{ℕ, All}
use Rattle.pair_messages.specs.Classes.{InClass, InFirst, InSome, IsBelow}
use Rattle.pair_messages.proofs.meetings.add_meetings.Given as goal

-- the places that are in one of the classes so far
abbrev pub invariant-loop-other : goal.invariant-loop-other
invariant-loop-other l = record {
  kept : (x : ℕ) → InSome l.fn.classes.items x → InSome l.classes.items x;
  every : (x : ℕ) → InClass l.class x → InFirst l.places l.other x → InSome l.classes.items x;
  below : (extent : ℕ) → IsBelow extent l.class → All (IsBelow extent) l.fn.classes.items → All (IsBelow extent) l.classes.items;
}
