-- Of a promise.
-- What a node sends, takes and has in a redistribution (HPF 2.0, 8.3).
use Rattle.std.specs.Prelude.{ℕ, ℤ, ◌&&◌, Bool, List, [], map, filter, slice_index_or}
use Rattle.std.specs.List.{list_any, range_with_len}
use Rattle.storage.specs.Storage.{Storage, Spot}
use Rattle.machine_steps.specs.Layout.{Layout, owned_in, sizes}
use Rattle.machine_steps.specs.Message.{has_any, remap_message}
use Rattle.machine_steps.specs.Node.{parcel, local_read, held_or_received, pieces_by}
use Rattle.letters.specs.Parcel.{Parcel}
use Rattle.letters.specs.declared.pair.Pair.{Pair}
use Rattle.machine_steps.specs.Rounds.{is_pair, remap_rounds}

-- the layouts before and after it, on so many nodes, one of which is `id`
pub record Redistribution : Type 0 where
  pub nodes : ℕ
  pub old : List Layout
  pub new : List Layout
  pub id : ℕ

module _ (r : Redistribution) where
  abbrev pub all_rounds : List (List Pair)
  all_rounds = remap_rounds r.nodes r.old r.new

  -- the elements that a node sends to another
  abbrev pub message_between : (from to : ℕ) → List Spot
  message_between from to = remap_message r.nodes r.old r.new from to

  -- a node sends to another in a round: the pair stands in it, and has a message
  abbrev pub sends_in : (round from to : ℕ) → Bool
  sends_in round from to = list_any (is_pair from to) (slice_index_or all_rounds round []) && has_any (message_between from to)

  -- what the node sends in a round, by its pieces
  abbrev pub round_outbox : ℕ → Storage → List Parcel
  round_outbox round pieces = map (parcel (λ to. map (local_read r.old r.id pieces) (message_between r.id to))) (filter (sends_in round r.id) (range_with_len 0 r.nodes))

  -- the nodes from which the node takes in a round
  abbrev pub round_inbox : ℕ → List ℕ
  round_inbox round = filter (λ from. sends_in round from r.id) (range_with_len 0 r.nodes)

  -- the value of an element on the node after the last round: its own, or received
  abbrev pub value_after : Storage → List (List ℤ) → Spot → ℤ
  value_after pieces received = held_or_received r.nodes r.old (λ from. message_between from r.id) r.id pieces received

  -- the elements that each node sends to it
  abbrev pub messages_to : List (List Spot)
  messages_to = map (λ from. message_between from r.id) (range_with_len 0 r.nodes)

  -- its piece of a row after the last round: the elements that it owns after, in array-element order
  abbrev pub moved_row : Storage → List (List ℤ) → ℕ → List ℤ
  moved_row pieces received row = map (λ at. value_after pieces received (record { row = row; at = at }))
      (filter (owned_in r.new row r.id) (range_with_len 0 (slice_index_or (sizes r.old) row 0)))

  -- its pieces of all rows
  abbrev pub moved_pieces : Storage → List (List ℤ) → Storage
  moved_pieces pieces received = pieces_by r.new r.id (value_after pieces received) 0 (sizes r.old)
