use Rattle.std.proofs.Common.{◌&&◌, map, option_map, take}
use Rattle.machine_steps.specs.Message.{names_spot}
use Rattle.storage.specs.Spots.{spot_of}
use Rattle.message_elements.specs.Elements.{is_sent}
use Rattle.comm_sets.specs.Noted.{Noted}
use Rattle.comm_sets.proofs.receiving.receive_reads.Given as goal

abbrev pub invariant-loop-read : goal.invariant-loop-read
invariant-loop-read l =
    Noted l.initial.messages l.messages (λ from s.
    names_spot (map (option_map spot_of) (take l.read-index l.reads)) s && is_sent l.owners.nodes l.owners.layouts from l.to s)
