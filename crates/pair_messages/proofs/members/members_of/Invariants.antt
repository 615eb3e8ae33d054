use Rattle.std.proofs.Common.{ℕ, take}
use Rattle.gap_table.proofs.AscendingLists.{In}
use Rattle.pair_messages.specs.Classes.{InSome}
use Rattle.pair_messages.proofs.members.members_of.Given as goal

-- those of the classes so far
abbrev pub invariant-loop-class : goal.invariant-loop-class
invariant-loop-class l = record {
  within : (x : ℕ) → In x l.places.items → InSome (take l.class-index l.classes) x;
  every : (x : ℕ) → InSome (take l.class-index l.classes) x → In x l.places.items;
}
