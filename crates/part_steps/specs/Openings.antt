-- Of a promise.
-- What a node sends and takes in the phase of a part.
use Rattle.std.specs.Prelude.{ℕ, List, map, filter}
use Rattle.std.specs.List.{range_with_len}
use Rattle.storage.specs.Storage.{Storage}
use Rattle.machine_steps.specs.Layout.{Layout}
use Rattle.machine_steps.specs.Message.{Part, message}
use Rattle.machine_steps.specs.Node.{parcel, part_sends, local_read}
use Rattle.letters.specs.Parcel.{Parcel}

module _ (nodes : ℕ) (layouts : List Layout) (part : Part) (id : ℕ) where
  -- to each node for which it has a message, the values of the message's elements
  abbrev pub outbox_on : Storage → List Parcel
  outbox_on pieces = map (parcel (λ q. map (local_read layouts id pieces) (message nodes layouts part id q))) (filter (part_sends nodes layouts part id) (range_with_len 0 nodes))

  -- the nodes that have a message for it
  abbrev pub inbox_on : List ℕ
  inbox_on = filter (λ p. part_sends nodes layouts part p id) (range_with_len 0 nodes)
