-- Of the claim.
-- A node of a distributed run as plain data, and its steps.
use Rattle.std.specs.Prelude.{ℕ, zero, suc, ◌+◌, ◌-◌, ◌*◌, ◌%◌, ◌^◌, ◌==◌, ◌&&◌, ◌≡◌, Bool, true, false, ℤ, pos, List, [], ◌∷◌, ◌++◌, map, filter, replicate, Option, Some, None, Result, Ok, Err, length, slice_index_or, slice_set, take, nat_lt, unsigned_abs, if◌then◌else◌}
use Rattle.std.specs.List.{fold, range_with_len, slice_get}
use Rattle.node_law.specs.declared.act.Act.{Act}
use Rattle.node_law.specs.declared.act.Act.TheVariants as act
use Rattle.node_law.specs.NodeSteps.{NodeSteps}
use Rattle.node_law.specs.Phases.{next_number}
use Rattle.letters.specs.declared.letter.Letter.{Letter}
use Rattle.letters.specs.Parcel.{Parcel}
use Rattle.storage.specs.Storage.{Storage, Spot, row_of, read, write}
use Rattle.storage.specs.Effect.{Effect, Skip, Put, Fail}
use Rattle.machine_steps.specs.Layout.{Layout, size_of, sizes, owned_by, owned_in, owns_spot, least_owner_of, piece, address}
use Rattle.machine_steps.specs.Instr.{Status, Running, Finished, Faulted, Control, Outcome, Nothing, Value, Breaks, Tuples, Fold, Rounds, Remapping, Item, Text, Elements, Instr, Local, Fetch, Store, Par, Verdict, Reduce, MakeCopy, FoldCopy, LastCopy, Scan, Remap, Print}
use Rattle.machine_steps.specs.Machine.{Kept, on, stay, faulted, slot_of, set_slot, store_control, verdict_control, last_control, picked, store_in, outcome_of, effect_by, earlier, keep, lies_so, lie_alike, is_one, last_passing, remapped, item_bytes, instr_at}
use Rattle.machine_steps.specs.Message.{Part, par_part, reduce_part, gather_part, fetch_part, message, remap_message, has_any, lookup}
use Rattle.machine_steps.specs.Tree.{levels_of, scan_sends, tree_sends}

-- a node is before an instruction, or in one of its phases, with what is still to be sent and from whom letters are still to be
-- taken, or after that phase
pub data Stage : Type 0 where
  Ready : Stage
  Passing : (outbox : List Parcel) → (inbox : List ℕ) → Stage
  Passed : Stage

-- `id` is its number of `nodes`, from 0. Of what it has for itself, `pieces` are its pieces of all rows, `kept` the fault that it
-- keeps, `joined` the values of a reduction that it computed, joined, or those that it took in a scan, and `line` and `printed` are node 0's. By the other node's number are
-- `received`, the values taken in this phase, and the numbers of the next letter to that node and from it. `round` counts the
-- phases of the instruction so far, and `folded` is what a tree or a scan has joined so far
pub record Node (C F : Type 0) : Type 0 where
  pub id : ℕ
  pub nodes : ℕ
  pub code : List C
  pub control : Control F
  pub substep : ℕ
  pub layouts : List Layout
  pub pieces : Storage
  pub kept : Option (Kept F)
  pub parts : ℕ
  pub joined : Option ℤ
  pub line : List ℕ
  pub printed : List ℕ
  pub phase : ℕ
  pub stage : Stage
  pub received : List (List ℤ)
  pub next_to : List ℕ
  pub next_from : List ℕ
  pub round : ℕ
  pub folded : List ℤ

-- ---- faults as values

-- a letter holds values alone, so a fault goes as a list of them
pub record FaultValues (F : Type 0) : Type 0 where
  pub values : F → List ℤ
  pub fault : List ℤ → F
  pub back : (f : F) → fault (values f) ≡ f

abbrev pub kept_values : {F : Type 0} → FaultValues F → Option (Kept F) → List ℤ
kept_values faults None = []
kept_values faults (Some k) = pos k.tuple ∷ pos k.part ∷ faults.values k.fault

abbrev pub values_kept : {F : Type 0} → FaultValues F → List ℤ → Option (Kept F)
values_kept faults [] = None
values_kept faults (x ∷ []) = None
values_kept faults (x ∷ y ∷ rest) = Some (record { tuple = unsigned_abs x; part = unsigned_abs y; fault = faults.fault rest })

-- ---- values that may be missing

abbrev pub option_values : Option ℤ → List ℤ
option_values None = []
option_values (Some v) = v ∷ []

abbrev pub values_option : List ℤ → Option ℤ
values_option [] = None
values_option (v ∷ rest) = Some v

-- two values joined, where both are there
abbrev pub join_options : (ℤ → ℤ → ℤ) → Option ℤ → Option ℤ → Option ℤ
join_options join None b = b
join_options join (Some a) None = Some a
join_options join (Some a) (Some b) = Some (join a b)

-- a value before others, where there are any
abbrev pub join_after : (ℤ → ℤ → ℤ) → ℤ → Option ℤ → ℤ
join_after join a None = a
join_after join a (Some b) = join a b

-- the values of the first numbers, where they have one, joined in order
abbrev pub join_below : (ℤ → ℤ → ℤ) → (ℕ → Option ℤ) → ℕ → Option ℤ
join_below join value zero = None
join_below join value (suc n) = join_options join (join_below join value n) (value n)

-- values joined in order, where there are any
abbrev pub join_all : (ℤ → ℤ → ℤ) → List ℤ → Option ℤ
join_all join values = fold (join_options join) None (map Some values)

-- each of some values joined with those before it, after others, where there are any
abbrev pub scan_after : (ℤ → ℤ → ℤ) → ℤ → Option ℤ → List ℤ → List ℤ
scan_after join unit before values =
    map (λ at. join_after join unit (join_options join before (join_all join (take (at + 1) values)))) (range_with_len 0 (length values))

abbrev pub outcome_value : {F : Type 0} → Outcome F → Option ℤ
outcome_value Nothing = None
outcome_value (Value v) = Some v
outcome_value (Breaks fault) = None

-- an element with its position
pub record Positioned : Type 0 where
  pub at : ℕ
  pub value : ℤ

abbrev pub is_after : Positioned → Positioned → Bool
is_after a b = nat_lt b.at a.at

abbrev pub later : Option Positioned → Option Positioned → Option Positioned
later = picked is_after

abbrev pub positioned_values : Option Positioned → List ℤ
positioned_values None = []
positioned_values (Some l) = pos l.at ∷ l.value ∷ []

abbrev pub values_positioned : List ℤ → Option Positioned
values_positioned [] = None
values_positioned (x ∷ []) = None
values_positioned (x ∷ v ∷ rest) = Some (record { at = unsigned_abs x; value = v })

abbrev pub value_of : Option Positioned → Option ℤ
value_of None = None
value_of (Some l) = Some l.value

-- ---- a phase

-- no values from any of so many nodes
abbrev pub no_values : ℕ → List (List ℤ)
no_values zero = []
no_values (suc count) = [] ∷ no_values count

-- the node with so much of the phase left. The last move of a phase turns its number, also where that is the local step that
-- opens it
abbrev pub settled : {C F : Type 0} → Node C F → List Parcel → List ℕ → Node C F
settled a (m ∷ outbox) inbox = record a { stage = Passing (m ∷ outbox) inbox }
settled a [] (p ∷ inbox) = record a { stage = Passing [] (p ∷ inbox) }
settled a [] [] = record a { stage = Passed; phase = next_number a.phase }

abbrev pub act_of : {F : Type 0} → Status F → Stage → Act
act_of Running Ready = act.Local
act_of Running (Passing (m ∷ outbox) inbox) = act.Send (record { 0 = m.to })
act_of Running (Passing [] (p ∷ inbox)) = act.Take (record { 0 = p })
act_of Running (Passing [] []) = act.Local
act_of Running Passed = act.Local
act_of Finished stage = act.Done
act_of (Faulted fault) stage = act.Done

module _ {C F : Type 0} where
  -- a node that has nothing to send has no letter, and what is told here of it is never sent
  abbrev pub letter_of : Stage → Node C F → Letter
  letter_of (Passing (m ∷ outbox) inbox) a = record { run = 1; phase = a.phase; from = record { 0 = a.id }; to = record { 0 = m.to }; number = slice_index_or a.next_to m.to 0; body = m.body }
  letter_of (Passing [] inbox) a = record { run = 1; phase = a.phase; from = record { 0 = a.id }; to = record { 0 = a.id }; number = 0; body = [] }
  letter_of Ready a = record { run = 1; phase = a.phase; from = record { 0 = a.id }; to = record { 0 = a.id }; number = 0; body = [] }
  letter_of Passed a = record { run = 1; phase = a.phase; from = record { 0 = a.id }; to = record { 0 = a.id }; number = 0; body = [] }

  abbrev pub after_send_by : Stage → Node C F → Node C F
  after_send_by (Passing (m ∷ outbox) inbox) a = settled (record a { next_to = slice_set a.next_to m.to (next_number (slice_index_or a.next_to m.to 0)) }) outbox inbox
  after_send_by (Passing [] inbox) a = a
  after_send_by Ready a = a
  after_send_by Passed a = a

  abbrev pub after_take_by : Stage → Letter → Node C F → Node C F
  after_take_by (Passing [] (p ∷ inbox)) l a = settled (record a {
    next_from = slice_set a.next_from p
        (next_number (slice_index_or a.next_from p 0));
    received = slice_set a.received p l.body;
  }) [] inbox
  after_take_by (Passing [] []) l a = a
  after_take_by (Passing (m ∷ outbox) inbox) l a = a
  after_take_by Ready l a = a
  after_take_by Passed l a = a

  -- the letter of this run and pair with the pair's next number
  abbrev pub awaits_by : Stage → Node C F → Letter → Bool
  awaits_by (Passing [] (p ∷ inbox)) a l = (l.run == 1) && ((l.from.0 == p) && ((l.to.0 == a.id) && (l.number == slice_index_or a.next_from p 0)))
  awaits_by (Passing [] []) a l = false
  awaits_by (Passing (m ∷ outbox) inbox) a l = false
  awaits_by Ready a l = false
  awaits_by Passed a l = false

abbrev pub parcel : (ℕ → List ℤ) → ℕ → Parcel
parcel body q = record { to = q; body = body q }

module _ {C F : Type 0} (count : ℕ) where
  -- the node in a phase in which p sends to q where `sends p q`
  abbrev pub opened_on : (ℕ → ℕ → Bool) → (ℕ → List ℤ) → Node C F → Node C F
  opened_on sends body a = settled a (map (parcel body) (filter (sends a.id) (range_with_len 0 count))) (filter (λ p. sends p a.id) (range_with_len 0 count))

  -- the same, with nothing received yet
  abbrev pub opened : (ℕ → ℕ → Bool) → (ℕ → List ℤ) → Node C F → Node C F
  opened sends body a = opened_on sends body (record a { received = no_values count })

  -- the node before what comes next
  abbrev pub ready : Node C F → Node C F
  ready a = record a { stage = Ready; received = []; round = 0; folded = [] }

-- ---- pieces

-- the place of an element in the node's pieces
abbrev pub local_spot : List Layout → ℕ → Spot → Spot
local_spot layouts node spot = record { row = spot.row; at = address layouts node spot }

abbrev pub local_read : List Layout → ℕ → Storage → Spot → ℤ
local_read layouts node pieces spot = read pieces (local_spot layouts node spot)

-- an owner stores, and no other node does
abbrev pub local_write : List Layout → ℕ → Spot → ℤ → Storage → Storage
local_write layouts node spot value pieces = if owns_spot layouts node spot then write pieces (local_spot layouts node spot) value else pieces

abbrev pub local_apply : {F : Type 0} → List Layout → ℕ → Effect F → Storage → Storage
local_apply layouts node Skip pieces = pieces
local_apply layouts node (Put spot value) pieces = local_write layouts node spot value pieces
local_apply layouts node (Fail fault) pieces = pieces

abbrev pub local_scatter : {F : Type 0} → List Layout → ℕ → (ℕ → Effect F) → ℕ → Storage → Storage
local_scatter layouts node effect zero pieces = pieces
local_scatter layouts node effect (suc t) pieces = local_apply layouts node (effect t) (local_scatter layouts node effect t pieces)

-- a node's pieces of all rows, by the values of the elements
abbrev pub pieces_by : (layouts : List Layout) → ℕ → (Spot → ℤ) → ℕ → (sizes : List ℕ) → Storage
pieces_by layouts node value row [] = []
pieces_by layouts node value row (size ∷ sizes) = map (λ at. value (record { row = row; at = at }))
    (filter (owned_in layouts row node) (range_with_len 0 size)) ∷ pieces_by layouts node value (row + 1) sizes

-- node 0 prints
abbrev pub at_root : ℕ → List ℕ → List ℕ
at_root id bytes = if id == 0 then bytes else []

-- ---- the message phase of a part

-- p sends to q where its message isn't empty
abbrev pub part_sends : ℕ → List Layout → Part → ℕ → ℕ → Bool
part_sends count layouts part p q = has_any (message count layouts part p q)

-- p sends to q in a round of a redistribution
abbrev pub remap_sends : ℕ → List Remapping → Rounds → List Layout → ℕ → ℕ → ℕ → Bool
remap_sends count new rounds layouts k p q = rounds.in_round layouts k p q && has_any (remap_message count layouts (remapped new layouts) p q)

-- an element that the node owns, or whose value it received in this phase
abbrev pub held_or_received : ℕ → List Layout → (ℕ → List Spot) → ℕ → Storage → List (List ℤ) → Spot → ℤ
held_or_received count layouts message_from node pieces received spot =
    if owns_spot layouts node spot then local_read layouts node pieces spot
    else lookup (message_from (least_owner_of count layouts spot)) (slice_index_or received (least_owner_of count layouts spot) []) spot

module _ {C F : Type 0} (count : ℕ) where
  abbrev pub part_opened : Part → Node C F → Node C F
  part_opened part a = opened count (part_sends count a.layouts part) (λ q. map (local_read a.layouts a.id a.pieces) (message count a.layouts part a.id q)) a

  abbrev pub gathered : Part → Node C F → Spot → ℤ
  gathered part a = held_or_received count a.layouts (λ p. message count a.layouts part p a.id) a.id a.pieces a.received

  -- what a tuple comes to on this node: nothing where the node doesn't compute it
  abbrev pub local_outcome : Part → Tuples F → Node C F → ℕ → Outcome F
  local_outcome part tuples a t = if part.computes a.id t then outcome_of tuples a.control.slots (gathered part a) t else Nothing

  -- ---- fetch

  abbrev pub fetch_begun : Result Spot F → Node C F → Node C F
  fetch_begun (Ok spot) a = part_opened (fetch_part spot) a
  fetch_begun (Err fault) a = record a { control = faulted a.control fault; substep = 0 }

  abbrev pub fetch_done : Result Spot F → ℕ → Node C F → Node C F
  fetch_done (Ok spot) slot a = ready count (record a { control = set_slot a.control slot (gathered (fetch_part spot) a spot); substep = 0 })
  fetch_done (Err fault) slot a = a

  -- ---- parallel statements and reductions

  abbrev pub par_done_by : Part → Tuples F → (List ℤ → ℕ → Option Spot) → Node C F → Node C F
  par_done_by part tuples left a = ready count (record a {
    control = on a.control;
    substep = 0;
    pieces = local_scatter a.layouts a.id (λ t. effect_by (left a.control.slots t) (local_outcome part tuples a t)) part.tuples a.pieces;
    kept = keep (local_outcome part tuples a) a.parts part.tuples a.kept;
    parts = a.parts + 1;
  })

  abbrev pub reduce_done_by : Part → Tuples F → Fold → Node C F → Node C F
  reduce_done_by part tuples f a = ready count (record a {
    substep = 1;
    kept = keep (local_outcome part tuples a) a.parts part.tuples a.kept;
    parts = a.parts + 1;
    joined = join_below f.join (λ t. outcome_value (local_outcome part tuples a t)) part.tuples;
  })

  -- ---- trees

  -- a node after round `round` of a tree: going up it joins what it received to what it has; going down it takes over what came
  abbrev pub tree_absorbed : {T : Type 0} → (T → T → T) → (T → List ℤ) → (List ℤ → T) → Node C F → Node C F
  tree_absorbed join values of a = record a {
    round = suc a.round;
    folded =
        if nat_lt a.round (levels_of count) then values (join (of a.folded) (of (slice_index_or a.received (a.id + 2 ^ a.round) [])))
        else if a.id % (2 ^ (2 * levels_of count - 1 - a.round) * 2) == 2 ^ (2 * levels_of count - 1 - a.round) then slice_index_or a.received
        (a.id - 2 ^ (2 * levels_of count - 1 - a.round)) []
        else a.folded;
  }

  -- the next round, or the end of the tree
  abbrev pub tree_next : (Node C F → Node C F) → Node C F → Node C F
  tree_next finish a = if nat_lt a.round (2 * levels_of count) then opened count (tree_sends (levels_of count) a.round) (λ q. a.folded) a else finish a

  -- a tree over what each node has
  abbrev pub tree_begun : (Node C F → Node C F) → List ℤ → Node C F → Node C F
  tree_begun finish values a = tree_next finish (record a { round = 0; folded = values })

  abbrev pub verdict_done : FaultValues F → (Control F → Control F) → ℕ → Node C F → Node C F
  verdict_done faults next substep a = ready count (record a { control = verdict_control (values_kept faults a.folded) next a.control; substep = substep; kept = None; parts = 0 })

  abbrev pub reduce_ended : Fold → ℕ → Node C F → Node C F
  reduce_ended f slot a = ready count (record a { control = set_slot a.control slot (join_after f.join f.unit (values_option a.folded)); substep = 0; joined = None })

  -- each position is one node's to join: that of the least owner
  abbrev pub own_fold : ℕ → Fold → Node C F → Option ℤ
  own_fold copy f a =
      join_below f.join
      (λ at. if least_owner_of count a.layouts (record { row = copy; at = at }) == a.id then Some (local_read a.layouts a.id a.pieces (record { row = copy; at = at })) else None)
      (slice_index_or (sizes a.layouts) copy 0)

  abbrev pub fold_ended : Fold → ℕ → Node C F → Node C F
  fold_ended f slot a = ready count (record a {
    control = set_slot a.control slot
        (f.join (slot_of a.control slot) (join_after f.join f.unit (values_option a.folded)));
    substep = 0;
  })

  -- each position is one node's to count: that of the least owner
  abbrev pub own_last : (copy set : ℕ) → (Layout → Layout → Bool) → Node C F → Option Positioned
  own_last copy set alike a =
      if lie_alike alike (slice_get a.layouts copy) (slice_get a.layouts set)
      then last_passing
      (λ at. (least_owner_of count a.layouts (record { row = copy; at = at }) == a.id) && is_one (local_read a.layouts a.id a.pieces (record { row = set; at = at })))
      (λ at. record { at = at; value = local_read a.layouts a.id a.pieces (record { row = copy; at = at }) })
      (slice_index_or (sizes a.layouts) copy 0)
      else None

  abbrev pub last_ended : ℕ → Node C F → Node C F
  last_ended slot a = ready count (record a { control = last_control (value_of (values_positioned a.folded)) slot a.control; substep = 0 })

  -- ---- scans

  -- each element of the node's piece is joined with what it took and those before it
  abbrev pub scan_ended : ℕ → Fold → Node C F → Node C F
  scan_ended copy f a = ready count (record a {
    control = on a.control;
    substep = 0;
    joined = None;
    pieces = slice_set a.pieces copy (scan_after f.join f.unit a.joined (row_of a.pieces copy));
  })

  -- the next round, or the end of the scan
  abbrev pub scan_next : ℕ → Fold → Node C F → Node C F
  scan_next copy f a = if nat_lt a.round (levels_of count) then opened count (scan_sends a.round) (λ q. a.folded) a else scan_ended copy f a

  -- a scan over what each node has of the copy
  abbrev pub scan_begun : Bool → ℕ → Fold → Node C F → Node C F
  scan_begun true copy f a = scan_next copy f (record a { round = 0; folded = option_values (join_all f.join (row_of a.pieces copy)); joined = None })
  scan_begun false copy f a = record a { control = on a.control; substep = 0; joined = None }

  -- what came in the round
  abbrev pub scan_came : Node C F → Option ℤ
  scan_came a = if nat_lt a.id (2 ^ a.round) then None else values_option (slice_index_or a.received (a.id - 2 ^ a.round) [])

  -- it is joined before what the node has, and before what it took
  abbrev pub scan_absorbed : Fold → Node C F → Node C F
  scan_absorbed f a = record a {
    round = suc a.round;
    folded = option_values (join_options f.join (scan_came a) (values_option a.folded));
    joined = join_options f.join (scan_came a) a.joined;
  }

  -- ---- redistribution

  abbrev pub remap_next : List Remapping → Rounds → Node C F → Node C F
  remap_next new rounds a =
      if nat_lt a.round (rounds.many a.layouts)
      then opened_on count (remap_sends count new rounds a.layouts a.round) (λ q. map (local_read a.layouts a.id a.pieces)
      (remap_message count a.layouts (remapped new a.layouts) a.id q)) a
      else ready count (record a {
        control = on a.control;
        substep = 0;
        layouts = remapped new a.layouts;
        pieces = pieces_by (remapped new a.layouts) a.id (held_or_received count a.layouts
            (λ p. remap_message count a.layouts (remapped new a.layouts) p a.id) a.id a.pieces a.received) 0 (sizes a.layouts);
      })

  -- ---- PRINT

  abbrev pub print_begun : Option Item → (List ℕ → List ℕ) → Node C F → Node C F
  print_begun (Some (Text bytes)) line a = record a { substep = suc a.substep; line = at_root a.id (a.line ++ bytes a.control.slots) }
  print_begun (Some (Elements tuples element bytes)) line a = part_opened (gather_part tuples element a.control.slots) a
  print_begun None line a = record a { control = on a.control; substep = 0; line = []; printed = at_root a.id (a.printed ++ line a.line) }

  abbrev pub print_done : Option Item → Node C F → Node C F
  print_done (Some (Text bytes)) a = a
  print_done (Some (Elements tuples element bytes)) a = ready count (record a {
    substep = suc a.substep;
    line = at_root a.id (a.line ++ item_bytes (Elements tuples element bytes) a.control.slots (gathered (gather_part tuples element a.control.slots) a));
  })
  print_done None a = a
  -- ---- local steps

module _ {C F : Type 0} (faults : FaultValues F) (count : ℕ) where
  abbrev pub reduce_begun : ℕ → Tuples F → Fold → ℕ → Node C F → Node C F
  reduce_begun zero tuples f slot a = part_opened count (reduce_part count a.layouts tuples a.control.slots) a
  reduce_begun (suc zero) tuples f slot a = tree_begun count (verdict_done count faults stay 2) (kept_values faults a.kept) a
  reduce_begun (suc (suc k)) tuples f slot a = tree_begun count (reduce_ended count f slot) (option_values a.joined) a

  abbrev pub reduce_done : ℕ → Tuples F → Fold → ℕ → Node C F → Node C F
  reduce_done zero tuples f slot a = reduce_done_by count (reduce_part count a.layouts tuples a.control.slots) tuples f a
  reduce_done (suc zero) tuples f slot a = tree_next count (verdict_done count faults stay 2) (tree_absorbed count earlier (kept_values faults) (values_kept faults) a)
  reduce_done (suc (suc k)) tuples f slot a = tree_next count (reduce_ended count f slot) (tree_absorbed count (join_options f.join) option_values values_option a)

  -- the local step of a node before an instruction, or before a step of it
  abbrev pub begun_by : Instr F → Node C F → Node C F
  begun_by (Local f) a = record a { control = f a.control; substep = 0 }
  begun_by (Fetch element slot) a = fetch_begun count (element a.control.slots) a
  begun_by (Store element value) a = record a {
    control = store_control (element a.control.slots) (value a.control.slots) a.control;
    substep = 0;
    pieces = store_in (local_write a.layouts a.id) (element a.control.slots) (value a.control.slots) a.pieces;
  }
  begun_by (Par tuples left) a = part_opened count (par_part a.layouts tuples left a.control.slots) a
  begun_by Verdict a = tree_begun count (verdict_done count faults on 0) (kept_values faults a.kept) a
  begun_by (Reduce tuples f slot) a = reduce_begun a.substep tuples f slot a
  begun_by (MakeCopy copy layout start) a = record a {
    control = on a.control;
    substep = 0;
    pieces = slice_set a.pieces copy (piece (owned_by (layout a.layouts a.control.slots)) a.id (replicate (size_of (layout a.layouts a.control.slots)) (start a.control.slots)));
    layouts = slice_set a.layouts copy (layout a.layouts a.control.slots);
  }
  begun_by (FoldCopy copy f slot) a = tree_begun count (fold_ended count f slot) (option_values (own_fold count copy f a)) a
  begun_by (LastCopy copy set alike slot) a = tree_begun count (last_ended count slot) (positioned_values (own_last count copy set alike a)) a
  begun_by (Scan copy in_blocks f) a = scan_begun count (lies_so in_blocks (slice_get a.layouts copy)) copy f a
  begun_by (Remap new rounds) a = remap_next count new rounds (record a { received = no_values count; round = 0 })
  begun_by (Print items line) a = print_begun count (slice_get items a.substep) line a

  -- the local step of a node after a phase. One without phases is never there
  abbrev pub done_by : Instr F → Node C F → Node C F
  done_by (Local f) a = a
  done_by (Fetch element slot) a = fetch_done count (element a.control.slots) slot a
  done_by (Store element value) a = a
  done_by (Par tuples left) a = par_done_by count (par_part a.layouts tuples left a.control.slots) tuples left a
  done_by Verdict a = tree_next count (verdict_done count faults on 0) (tree_absorbed count earlier (kept_values faults) (values_kept faults) a)
  done_by (Reduce tuples f slot) a = reduce_done a.substep tuples f slot a
  done_by (MakeCopy copy layout start) a = a
  done_by (FoldCopy copy f slot) a = tree_next count (fold_ended count f slot) (tree_absorbed count (join_options f.join) option_values values_option a)
  done_by (LastCopy copy set alike slot) a = tree_next count (last_ended count slot) (tree_absorbed count later positioned_values values_positioned a)
  done_by (Scan copy in_blocks f) a = scan_next count copy f (scan_absorbed count f a)
  done_by (Remap new rounds) a = remap_next count new rounds (record a { round = suc a.round })
  done_by (Print items line) a = print_done count (slice_get items a.substep) a

module _ {C F : Type 0} (faults : FaultValues F) (meaning : C → Instr F) where
  abbrev pub worked_by : Stage → Node C F → Node C F
  worked_by Ready a = begun_by faults a.nodes (instr_at meaning a.code a.control.at) a
  worked_by (Passing outbox inbox) a = a
  worked_by Passed a = done_by faults a.nodes (instr_at meaning a.code a.control.at) a

  -- the step functions of nodes
  abbrev pub node_steps : NodeSteps (Node C F) Letter
  node_steps = record {
    act = λ a. act_of a.control.status a.stage;
    phase = λ a. a.phase;
    after_local = λ a. worked_by a.stage a;
    letter = λ a. letter_of a.stage a;
    after_send = λ a. after_send_by a.stage a;
    after_take = λ l a. after_take_by a.stage l a;
    awaits = λ a l. awaits_by a.stage a l;
  }
