use Rattle.std.proofs.Common.{◌&&◌, nat_eq, not, take}
use Rattle.std.specs.List.{list_any}
use Rattle.machine_steps.specs.Layout.{owns_spot}
use Rattle.storage.specs.Spots.{spot_of}
use Rattle.comm_sets.specs.Marks.{Marked}
use Rattle.comm_sets.proofs.marks.mark_targets.Given as goal

abbrev pub invariant-loop-target : goal.invariant-loop-target
invariant-loop-target l =
    Marked l.before.nodes l.initial.marks.items l.marks.items (λ p q.
    nat_eq l.from p && (list_any (λ target. nat_eq target q) (take l.target-index l.targets) && not (owns_spot l.before.layouts q (spot_of l.spot))))
