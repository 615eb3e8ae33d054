use Rattle.std.specs.List.{list_any}
use Rattle.std.proofs.Common.{◌&&◌, nat_eq, map, option_map, take}
use Rattle.machine_steps.specs.Message.{names_spot}
use Rattle.storage.specs.Spots.{spot_of}
use Rattle.message_elements.specs.Elements.{is_sent}
use Rattle.comm_sets.specs.Noted.{Noted}
use Rattle.comm_sets.proofs.sending.send_reads.Given as goal

abbrev pub invariant-loop-read : goal.invariant-loop-read
invariant-loop-read l =
    Noted l.initial.messages l.messages (λ to s.
    (list_any (λ node. nat_eq node to) l.computing && names_spot (map (option_map spot_of) (take l.read-index l.reads)) s)
    && is_sent l.owners.nodes l.owners.layouts l.from to s)
