use Rattle.std.specs.List.{list_any}
use Rattle.std.proofs.Common.{◌&&◌, not, nat_eq, take}
use Rattle.storage.specs.Storage.{is_same_spot}
use Rattle.machine_steps.specs.Layout.{owns_spot}
use Rattle.storage.specs.Spots.{spot_of}
use Rattle.comm_sets.specs.Noted.{Noted}
use Rattle.comm_sets.proofs.sending.send.Given as goal

abbrev pub invariant-loop-node : goal.invariant-loop-node
invariant-loop-node l =
    Noted l.initial.messages l.messages (λ to s.
    list_any (λ node. nat_eq node to) (take l.node-index l.computing) && (is_same_spot (spot_of l.spot) s && not (owns_spot l.owners.layouts to s)))
