-- Of the claim.
-- The machine with whole arrays: one state, no nodes and no letters. A step is one instruction, or one step of a Reduce or a Print.
use Rattle.std.specs.Prelude.{ℕ, zero, suc, ◌+◌, ◌==◌, ◌&&◌, ◌||◌, Bool, true, false, ℤ, pos, List, [], ◌∷◌, ◌++◌, map, length, replicate, Option, Some, None, Result, Ok, Err, slice_index_or, slice_set, take, nat_lt, if◌then◌else◌}
use Rattle.std.specs.List.{slice_get, fold, range_with_len}
use Rattle.std.specs.Ordering.{int_eq}
use Rattle.mappings.specs.declared.mapping.Mapping.{Mapping}
use Rattle.storage.specs.Storage.{Storage, Spot, row_of, read, write}
use Rattle.storage.specs.Effect.{Effect, Skip, Put, Fail, scatter}
use Rattle.machine_steps.specs.Layout.{Layout, size_of}
use Rattle.machine_steps.specs.Instr.{Status, Running, Finished, Faulted, Control, Outcome, Nothing, Value, Breaks, Tuples, Fold, Remapping, Item, Text, Elements, Instr, Local, Fetch, Store, Par, Verdict, Reduce, MakeCopy, FoldCopy, LastCopy, Scan, Remap, Print}

-- a fault that is kept, with its key: the number of its tuple, and then the number of parts since the last verdict
pub record Kept (F : Type 0) : Type 0 where
  pub tuple : ℕ
  pub part : ℕ
  pub fault : F

-- C is the text of an instruction. `substep` is the next step of the instruction at the place, from 0; `parts` are the parallel
-- statements and reductions since the last verdict; `joined` are the values of a reduction that is under way, joined, and `line` are
-- the bytes of the items of a PRINT that is under way
pub record Machine (C F : Type 0) : Type 0 where
  pub code : List C
  pub control : Control F
  pub substep : ℕ
  pub rows : Storage
  pub layouts : List Layout
  pub kept : Option (Kept F)
  pub parts : ℕ
  pub joined : ℤ
  pub line : List ℕ
  pub printed : List ℕ

-- ---- place and slots

module _ {F : Type 0} where
  -- the next instruction
  abbrev pub on : Control F → Control F
  on c = record c { at = c.at + 1 }

  abbrev pub stay : Control F → Control F
  stay c = c

  abbrev pub faulted : Control F → F → Control F
  faulted c fault = record c { status = Faulted fault }

  abbrev pub slot_of : Control F → ℕ → ℤ
  slot_of c slot = slice_index_or c.slots slot (pos 0)

  abbrev pub set_slot : Control F → ℕ → ℤ → Control F
  set_slot c slot value = record c { at = c.at + 1; slots = slice_set c.slots slot value }

  abbrev pub fetch_control : Result Spot F → (Spot → ℤ) → ℕ → Control F → Control F
  fetch_control (Ok spot) get slot c = set_slot c slot (get spot)
  fetch_control (Err fault) get slot c = faulted c fault

  abbrev pub store_control : Result Spot F → Result ℤ F → Control F → Control F
  store_control (Ok spot) (Ok value) c = on c
  store_control (Ok spot) (Err fault) c = faulted c fault
  store_control (Err fault) value c = faulted c fault

  -- a fault is the run's, else it goes on
  abbrev pub verdict_control : Option (Kept F) → (Control F → Control F) → Control F → Control F
  verdict_control None next c = next c
  verdict_control (Some k) next c = faulted c k.fault

  -- a value, where there is one
  abbrev pub last_control : Option ℤ → ℕ → Control F → Control F
  last_control None slot c = on c
  last_control (Some value) slot c = set_slot c slot value

-- of two the one that comes before the other; the first, where neither does
abbrev pub picked : {A : Type 0} → (A → A → Bool) → Option A → Option A → Option A
picked is_first None b = b
picked is_first (Some a) None = Some a
picked is_first (Some a) (Some b) = if is_first b a then Some b else Some a

-- ---- tuples

-- what is stored in something that takes elements, as the whole arrays or a node's pieces
abbrev pub store_in : {S F : Type 0} → (Spot → ℤ → S → S) → Result Spot F → Result ℤ F → S → S
store_in put (Ok spot) (Ok value) s = put spot value s
store_in put (Ok spot) (Err fault) s = s
store_in put (Err fault) value s = s

abbrev pub write_to : Spot → ℤ → Storage → Storage
write_to spot value rows = write rows spot value

-- the value of a read, where `get` gives the elements
abbrev pub value_by : (Spot → ℤ) → Option Spot → ℤ
value_by get None = pos 0
value_by get (Some spot) = get spot

module _ {F : Type 0} where
  -- what a tuple comes to
  abbrev pub outcome_of : Tuples F → List ℤ → (Spot → ℤ) → ℕ → Outcome F
  outcome_of tuples slots get t = tuples.outcome slots t (map (value_by get) (tuples.reads slots t))

  -- what it does to the element that is assigned
  abbrev pub effect_by : Option Spot → Outcome F → Effect F
  effect_by left Nothing = Skip
  effect_by left (Breaks fault) = Fail fault
  effect_by None (Value value) = Skip
  effect_by (Some spot) (Value value) = Put spot value

  abbrev pub effect_of : Tuples F → (List ℤ → ℕ → Option Spot) → List ℤ → (Spot → ℤ) → ℕ → Effect F
  effect_of tuples left slots get t = effect_by (left slots t) (outcome_of tuples slots get t)

  -- ---- kept faults

  -- one key comes before another: by the tuple, and then by the part
  abbrev pub is_before : Kept F → Kept F → Bool
  is_before a b = nat_lt a.tuple b.tuple || ((a.tuple == b.tuple) && nat_lt a.part b.part)

  -- the one with the least key
  abbrev pub earlier : Option (Kept F) → Option (Kept F) → Option (Kept F)
  earlier = picked is_before

  abbrev pub kept_of : Outcome F → ℕ → ℕ → Option (Kept F)
  kept_of Nothing tuple part = None
  kept_of (Value value) tuple part = None
  kept_of (Breaks fault) tuple part = Some (record { tuple = tuple; part = part; fault = fault })

  -- what was kept, with the faults of the first tuples of a part
  abbrev pub keep : (ℕ → Outcome F) → (part tuples : ℕ) → Option (Kept F) → Option (Kept F)
  keep outcome part zero old = old
  keep outcome part (suc t) old = earlier (keep outcome part t old) (kept_of (outcome t) t part)

  -- ---- values joined

  abbrev pub join_outcome : Fold → Outcome F → ℤ → ℤ
  join_outcome f Nothing so_far = so_far
  join_outcome f (Value value) so_far = f.join so_far value
  join_outcome f (Breaks fault) so_far = so_far

  -- the values of the first tuples, joined in their order, beginning with the unit
  abbrev pub folded : Fold → (ℕ → Outcome F) → ℕ → ℤ
  folded f outcome zero = f.unit
  folded f outcome (suc t) = join_outcome f (outcome t) (folded f outcome t)

-- each of some values joined with those before it, in order (HPF 2.0, 7.4)
abbrev pub scan : Fold → List ℤ → List ℤ
scan f values = map (λ at. fold f.join f.unit (take (at + 1) values)) (range_with_len 0 (length values))

-- the value of the last of so many positions that pass
abbrev pub last_passing : {A : Type 0} → (ℕ → Bool) → (ℕ → A) → ℕ → Option A
last_passing P value zero = None
last_passing P value (suc n) = if P n then Some (value n) else last_passing P value n

-- a row has a layout, which is such
abbrev pub lies_so : (Layout → Bool) → Option Layout → Bool
lies_so is_such None = false
lies_so is_such (Some layout) = is_such layout

-- both rows have layouts that are alike
abbrev pub lie_alike : (Layout → Layout → Bool) → Option Layout → Option Layout → Bool
lie_alike alike (Some one) (Some other) = alike one other
lie_alike alike (Some one) None = false
lie_alike alike None other = false

abbrev pub is_one : ℤ → Bool
is_one v = int_eq v (pos 1)

-- an element of the copy at the last position where the other copy is 1
abbrev pub last_of : (Layout → Layout → Bool) → List Layout → Storage → (copy set : ℕ) → Option ℤ
last_of alike layouts rows copy set =
    if lie_alike alike (slice_get layouts copy) (slice_get layouts set)
    then last_passing (λ at. is_one (read rows (record { row = set; at = at }))) (λ at. read rows (record { row = copy; at = at })) (length (row_of rows copy))
    else None

-- a copy is scanned, where it lies so
abbrev pub scanned_rows : Bool → Fold → ℕ → Storage → Storage
scanned_rows true f copy rows = slice_set rows copy (scan f (row_of rows copy))
scanned_rows false f copy rows = rows

-- ---- layouts

-- one array has another mapping
abbrev pub with_mapping : List Layout → ℕ → Mapping → List Layout
with_mapping [] row mapping = []
with_mapping (layout ∷ layouts) zero mapping = record layout { mapping = mapping } ∷ layouts
with_mapping (layout ∷ layouts) (suc row) mapping = layout ∷ with_mapping layouts row mapping

-- the arrays named have their new mappings
abbrev pub remapped : List Remapping → List Layout → List Layout
remapped [] layouts = layouts
remapped (new ∷ rest) layouts = remapped rest (with_mapping layouts new.row new.mapping)

-- ---- PRINT

abbrev pub value_or_none : (Spot → ℤ) → Option Spot → List ℤ
value_or_none get None = []
value_or_none get (Some spot) = get spot ∷ []

-- the values of the first elements, in order; what is none is left out
abbrev pub element_values : (Spot → ℤ) → (ℕ → Option Spot) → ℕ → List ℤ
element_values get read zero = []
element_values get read (suc t) = element_values get read t ++ value_or_none get (read t)

abbrev pub item_bytes : Item → List ℤ → (Spot → ℤ) → List ℕ
item_bytes (Text bytes) slots get = bytes slots
item_bytes (Elements tuples element bytes) slots get = bytes (element_values get (element slots) (tuples slots))

-- ---- steps

module _ {C F : Type 0} where
  abbrev pub verdict_step : (Control F → Control F) → ℕ → Machine C F → Machine C F
  verdict_step next substep m = record m { control = verdict_control m.kept next m.control; substep = substep; kept = None; parts = 0 }

  -- a reduction: the values, then the verdict, then the slot
  abbrev pub reduce_step : ℕ → Tuples F → Fold → ℕ → Machine C F → Machine C F
  reduce_step zero tuples f slot m = record m {
    substep = 1;
    kept = keep (outcome_of tuples m.control.slots (read m.rows)) m.parts (tuples.count m.control.slots) m.kept;
    parts = m.parts + 1;
    joined = folded f (outcome_of tuples m.control.slots (read m.rows)) (tuples.count m.control.slots);
  }
  reduce_step (suc zero) tuples f slot m = verdict_step stay 2 m
  reduce_step (suc (suc k)) tuples f slot m = record m { control = set_slot m.control slot m.joined; substep = 0 }

  -- the next item of a PRINT, or its line
  abbrev pub print_step : Option Item → (List ℕ → List ℕ) → Machine C F → Machine C F
  print_step (Some item) line m = record m { substep = suc m.substep; line = m.line ++ item_bytes item m.control.slots (read m.rows) }
  print_step None line m = record m { control = on m.control; substep = 0; line = []; printed = m.printed ++ line m.line }

  -- a step of an instruction, over whole arrays
  abbrev pub step_by : Instr F → Machine C F → Machine C F
  step_by (Local f) m = record m { control = f m.control; substep = 0 }
  step_by (Fetch element slot) m = record m { control = fetch_control (element m.control.slots) (read m.rows) slot m.control; substep = 0 }
  step_by (Store element value) m = record m {
    control = store_control (element m.control.slots) (value m.control.slots) m.control;
    substep = 0;
    rows = store_in write_to (element m.control.slots) (value m.control.slots) m.rows;
  }
  step_by (Par tuples left) m = record m {
    control = on m.control;
    substep = 0;
    rows = scatter (effect_of tuples left m.control.slots (read m.rows)) (tuples.count m.control.slots) m.rows;
    kept = keep (outcome_of tuples m.control.slots (read m.rows)) m.parts (tuples.count m.control.slots) m.kept;
    parts = m.parts + 1;
  }
  step_by Verdict m = verdict_step on 0 m
  step_by (Reduce tuples f slot) m = reduce_step m.substep tuples f slot m
  step_by (MakeCopy copy layout start) m = record m {
    control = on m.control;
    substep = 0;
    rows = slice_set m.rows copy (replicate (size_of (layout m.layouts m.control.slots)) (start m.control.slots));
    layouts = slice_set m.layouts copy (layout m.layouts m.control.slots);
  }
  step_by (FoldCopy copy f slot) m = record m {
    control = set_slot m.control slot (f.join (slot_of m.control slot) (fold f.join f.unit (row_of m.rows copy)));
    substep = 0;
  }
  step_by (LastCopy copy set alike slot) m = record m { control = last_control (last_of alike m.layouts m.rows copy set) slot m.control; substep = 0 }
  step_by (Scan copy in_blocks f) m = record m {
    control = on m.control;
    substep = 0;
    rows = scanned_rows (lies_so in_blocks (slice_get m.layouts copy)) f copy m.rows;
  }
  step_by (Remap new rounds) m = record m { control = on m.control; substep = 0; layouts = remapped new m.layouts }
  step_by (Print items line) m = print_step (slice_get items m.substep) line m

module _ {C F : Type 0} (meaning : C → Instr F) where
  abbrev pub finish : Control F → Control F
  finish c = record c { status = Finished }

  abbrev pub instr_of : Option C → Instr F
  instr_of None = Local finish
  instr_of (Some text) = meaning text

  -- the instruction at a place; past the code's end the run is finished
  abbrev pub instr_at : List C → ℕ → Instr F
  instr_at code at = instr_of (slice_get code at)

  abbrev pub step_while : Status F → Machine C F → Machine C F
  step_while Running m = step_by (instr_at m.code m.control.at) m
  step_while Finished m = m
  step_while (Faulted fault) m = m

  -- a machine whose run is over makes no step
  abbrev pub step : Machine C F → Machine C F
  step m = step_while m.control.status m

  abbrev pub steps : ℕ → Machine C F → Machine C F
  steps zero m = m
  steps (suc k) m = steps k (step m)
