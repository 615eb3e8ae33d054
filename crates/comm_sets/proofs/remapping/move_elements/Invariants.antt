use Rattle.std.proofs.Common.{◌&&◌, nat_eq, take}
use Rattle.std.specs.List.{list_any}
use Rattle.comm_sets.specs.Moves.{moves}
use Rattle.comm_sets.specs.Noted.{Noted}
use Rattle.comm_sets.proofs.remapping.move_elements.Given as goal

-- of the elements so far
abbrev pub invariant-loop-at : goal.invariant-loop-at
invariant-loop-at l =
    Noted l.initial.messages l.messages (λ other s.
    (nat_eq l.row s.row && list_any (λ at. nat_eq at s.at) (take l.at-index l.at-items)) && moves l.before.nodes l.before.layouts l.after.layouts l.end other s)
