-- Of a promise.
-- Rows of ends: the queues between all ordered pairs of so many nodes. The ends of sources stand by the source and then by the target, those of targets by the target and then by
-- the source.
use Rattle.std.specs.Prelude.{◌≡◌, ℕ, ◌+◌, ◌*◌, List, [], ◌++◌, length, map, Option, Some, None}
use Rattle.std.specs.List.{slice_get}
use Rattle.atomic_table.specs.Seated.{TableId}
use Rattle.letters.specs.declared.letter.Letter.{Letter}
use Rattle.pair_mailbox.specs.Ends.{Outgoing, Incoming, Exchanged}
use Rattle.all_pairs.specs.Routes.{route}

-- of which queue an end is
abbrev pub out_queue : Outgoing → TableId
out_queue o = o.queue

abbrev pub in_queue : Incoming → TableId
in_queue i = i.queue

abbrev pub out_queues : List (List Outgoing) → List (List TableId)
out_queues rows = map (map out_queue) rows

abbrev pub in_queues : List (List Incoming) → List (List TableId)
in_queues rows = map (map in_queue) rows

-- what stands in a row at b, where there is the row
abbrev pub at_of : {A : Type 0} → Option (List A) → ℕ → Option A
at_of None b = None
at_of (Some row) b = slice_get row b

-- what stands in row a at b
abbrev pub at : {A : Type 0} → List (List A) → ℕ → ℕ → Option A
at rows a b = at_of (slice_get rows a) b

-- so many rows of so many elements each
pub record IsSquare {A : Type 0} (count : ℕ) (rows : List (List A)) : Type 0 where
  pub many : length rows ≡ count
  pub wide : (a : ℕ) (row : List A) → slice_get rows a ≡ Some row → length row ≡ count

-- Two tables of queues, by source and target and by target and source: they have one queue for each ordered pair of so many nodes. Steps change no queue, so this stays as it was
-- at the opening.
pub record ArePairs (count : ℕ) (outs ins : List (List TableId)) : Type 0 where
  pub outs_square : IsSquare count outs
  pub ins_square : IsSquare count ins
  pub one_queue : (p q : ℕ) → at outs p q ≡ at ins q p

-- the two ends of each pair's queue, just opened
pub record AreOpenPairs (count : ℕ) (outs : List (List Outgoing)) (ins : List (List Incoming)) : Type 0 where
  pub outs_square : IsSquare count outs
  pub ins_square : IsSquare count ins
  pub pairs : ArePairs count (out_queues outs) (in_queues ins)
  pub outs_fresh : (p q : ℕ) (o : Outgoing) → at outs p q ≡ Some o → (o.route ≡ route p q) × (o.sent ≡ [])
  pub ins_fresh : (q p : ℕ) (i : Incoming) → at ins q p ≡ Some i → (i.route ≡ route p q) × (i.taken ≡ [])

-- what a closed queue keeps of its two ends
abbrev pub joined : Outgoing → Incoming → Exchanged
joined o i = record { route = o.route; letters = o.sent; taken = i.taken }

-- what was sent at the one end is what was taken at the other and then something
abbrev pub IsPassed : Outgoing → Incoming → Type 0
IsPassed o i = (held : List Letter) × (o.sent ≡ i.taken ++ held)

-- the closed queues of all pairs, by the source and then by the target
pub record AreClosedPairs (outs : List (List Outgoing)) (ins : List (List Incoming)) (closed : List Exchanged) : Type 0 where
  pub many : length closed ≡ length outs * length outs
  pub ends : (p q : ℕ) (o : Outgoing) (i : Incoming) → at outs p q ≡ Some o → at ins q p ≡ Some i
      → (slice_get closed (p * length outs + q) ≡ Some (joined o i)) × IsPassed o i
