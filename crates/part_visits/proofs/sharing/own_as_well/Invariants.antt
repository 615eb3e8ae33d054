use Rattle.std.proofs.Common.{◌≡◌, ℕ, ◌<◌, ◌==◌, true, take}
use Rattle.std.specs.List.{list_any}
use Rattle.machine_steps.specs.Layout.{owned_by, size_of}
use Rattle.part_visits.proofs.sharing.own_as_well.Given as goal

abbrev pub invariant-loop-other : goal.invariant-loop-other
invariant-loop-other l = (at : ℕ) → at < size_of l.table.layout → owned_by l.table.layout l.node at ≡ true
    → (other : ℕ) → other < l.table.nodes → list_any (λ n. n == other) (take l.other-index l.others) ≡ true → owned_by l.table.layout other at ≡ true
