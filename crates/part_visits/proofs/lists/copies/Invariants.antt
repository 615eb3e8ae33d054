use Rattle.std.proofs.Common.{◌≡◌, ◌++◌, drop, map}
use Rattle.part_visits.proofs.lists.copies.Given as goal

-- the copies so far, before the lists that are left
abbrev pub invariant-loop-list : goal.invariant-loop-list
invariant-loop-list l = map (λ v. v.items) l.copies.items ++ drop l.list-index (map (λ v. v.items) l.lists) ≡ map (λ v. v.items) l.lists
