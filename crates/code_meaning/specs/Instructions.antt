-- Of the claim.
-- What each instruction of node code does on the machine with whole arrays.
use Rattle.std.specs.Prelude.{ℕ, zero, suc, ◌+◌, ◌<◌, List, [], ◌∷◌, ◌++◌, drop, slice_get, slice_set, ℤ, pos, Bool, true, false, Option, Some, None, Result, Ok, Err, ⊤, if◌then◌else◌}
use Rattle.std.specs.Fmt.{signed_decimal}
use Rattle.op_tables.specs.Operators.{wrapped, is_zero, is_true}
use Rattle.node_code.specs.Dim.{Dim}
use Rattle.storage.specs.Storage.{Spot}
use Rattle.node_code.specs.FaultKind.TheVariants.{ZeroStride}
use Rattle.node_code.specs.Faults.{Cause, Fault, ◌>>=◌, fails}
use Rattle.node_code.specs.State.{element_place, if_in_bounds}
use Rattle.node_code.specs.Sequence.{Sequence}
use Rattle.node_code.specs.Selection.{Selection}
use Rattle.node_code.specs.Sections.{sequence, extents, subscripts_at, positions}
use Rattle.node_code.specs.Elementals.{each}
use Rattle.node_code.specs.NestEntry.{entered}
use Rattle.node_code.specs.Execution.{decimals}
use Rattle.mappings.specs.declared.mapping.Mapping.{Mapping}
use Rattle.aligned_copies.specs.Layout.{Layout, size_of}
use Rattle.aligned_copies.specs.Instr as machine
use Rattle.aligned_copies.specs.Instr.{Instr, Local, Control, Remapping, Rounds}
use Rattle.aligned_copies.specs.Machine.{on, faulted, set_slot}
use Rattle.aligned_copies.specs.SameLayouts.{is_same_layout}
use Rattle.aligned_copies.specs.Space.{space_count}
use Rattle.aligned_copies.specs.Beside.{Anchor}
use Rattle.node_code.specs.Flat.{Flats}
use Rattle.code_meaning.specs.Flat.{slot, flat_value, flat_values, slots_value}
use Rattle.node_code.specs.Forms.{Sub}
use Rattle.code_meaning.specs.Forms.{selections_in}
use Rattle.code_meaning.specs.Parallel.{at_line, shape_of, spot_of, assignment_size, assignment_tuples, assigned_spot, evaluation_extents, evaluation_size, evaluation_tuples, reduction_tuples, fold_of, copy_spot, forall_tuples, forall_spot, forall_mask_tuples}
use Rattle.code_meaning.specs.ForallLimits.{forall_limits, one_to_one}
use Rattle.code_meaning.specs.Anchors.{anchor_in}
use Rattle.code_meaning.specs.NestStatements.{nest_tuples, nest_spot, copies_extents}
use Rattle.code_meaning.specs.NestChecks.{entry_state}
use Rattle.node_code.specs.Instructions.{PrintItem, PrintBytes, PrintNumber, PrintSection, NewMapping, Instruction, Set, Fetch, Store, TestBounds, TestStride, Trips, Jump, JumpIfZero, Halt, Limits, OwnLimits, ForallLimits, OneToOne, Check, Par, ParForall, ParNest, MakeCopies, MakeCopy, ParCopy, ParForallCopy, Verdict, Reduce, Inside, Print, FoldCopy, LastCopy, ScanCopy, Remap}

abbrev pub spot_in : ℕ → List Dim → List ℤ → Result Spot Cause
spot_in a dims subscripts = if_in_bounds (element_place dims subscripts) >>= (λ k. Ok (record { row = a; at = k }))

-- ---- local instructions

abbrev pub set_result : Result ℤ Fault → ℕ → Control Fault → Control Fault
set_result (Ok value) slot c = set_slot c slot value
set_result (Err fault) slot c = faulted c fault

abbrev pub begin_trips : ℕ → ℕ → Result Sequence Fault → Control Fault → Control Fault
begin_trips left target (Err fault) c = faulted c fault
begin_trips left target (Ok p) c = by_count p.count where
  by_count : ℕ → Control Fault
  by_count zero = record c { at = target }
  by_count (suc n) = record { at = c.at + 1; slots = slice_set c.slots left (wrapped (pos n)); status = c.status }

abbrev pub go_if : Bool → ℕ → Control Fault → Control Fault
go_if true target c = on c
go_if false target c = record c { at = target }

-- a test, which may fault and changes nothing
abbrev pub go_on_if : {A : Type 0} → Result A Fault → Control Fault → Control Fault
go_on_if (Ok v) c = on c
go_on_if (Err fault) c = faulted c fault

abbrev pub stride_at : ℕ → List ℤ → Result ℕ Cause
stride_at x slots = if is_zero (slot slots x) then fails ZeroStride else Ok 0

module _ (shapes : List (List Dim)) where
  abbrev pub element_in : ℕ → ℕ → Flats → List ℤ → Result Spot Fault
  element_in line a fs slots = at_line line (flat_values slots [] [] fs >>= spot_in a (shape_of shapes a))

  -- ---- PRINT

  -- the places of the elements of a section, or the first of them that is out of bounds
  abbrev pub all_inside : ℕ → List Selection → Result (List ℕ) Cause
  all_inside a ds =
      each (positions (extents ds)) (λ t. if_in_bounds (element_place (shape_of shapes a) (subscripts_at ds (positions (extents ds) t))))
      (space_count (extents ds))

  -- its elements, in array element order
  abbrev pub section_spot : ℕ → List Sub → List ℤ → ℕ → Option Spot
  section_spot a subs slots t = spot_of shapes a (subscripts_at (selections_in slots subs) (positions (extents (selections_in slots subs)) t))

  -- a blank before each text and each number
  abbrev pub item_of : PrintItem → machine.Item
  item_of (PrintBytes bytes) = machine.Text (λ slots. 32 ∷ bytes)
  item_of (PrintNumber f) = machine.Text (λ slots. 32 ∷ signed_decimal (slots_value slots f))
  item_of (PrintSection a subs) = machine.Elements (λ slots. space_count (extents (selections_in slots subs))) (section_spot a subs) decimals

  abbrev pub items_of : List PrintItem → List machine.Item
  items_of [] = []
  items_of (i ∷ is) = item_of i ∷ items_of is

-- ---- new mappings

-- a mapping where its number has one
abbrev pub remapping_by : ℕ → Option Mapping → List Remapping → List Remapping
remapping_by row None rest = rest
remapping_by row (Some mapping) rest = record { row = row; mapping = mapping } ∷ rest

-- new mappings, by the mappings of the program
abbrev pub remappings : List Mapping → List NewMapping → List Remapping
remappings maps [] = []
remappings maps (first ∷ new) = remapping_by first.array (slice_get maps first.map) (remappings maps new)

-- ---- all instructions

-- what instructions know of arrays: the dimensions of those that are declared, by the places of their names, the program's mappings by
-- their numbers, the layout of a copy of these extents by the layouts of all rows now and by what is assigned at a tuple, where it lies
-- beside that, and the rounds in which arrays get new mappings
pub record ArrayTable : Type 0 where
  pub shapes : List (List Dim)
  pub maps : List Mapping
  pub copies : List Layout → Option Anchor → (extents : List ℕ) → Layout
  pub rounds : List Remapping → Rounds

-- a copy lies as one of one dimension with as many elements, which lies beside nothing
abbrev pub lies_alone : ArrayTable → Layout → Bool
lies_alone table layout = is_same_layout layout (table.copies [] None (size_of layout ∷ []))

-- what is assigned is an element of one of so many declared arrays, whose rows are the first
abbrev pub IsAnchorBelow : ℕ → Option Anchor → Type 0
IsAnchorBelow n None = ⊤
IsAnchorBelow n (Some anchor) = anchor.row < n

abbrev pub meaning_of : ArrayTable → Instruction → Instr Fault
meaning_of table (Set line x f) = Local (λ c. set_result (at_line line (flat_value c.slots [] [] f)) x c)
meaning_of table (Fetch line a fs x) = machine.Fetch (element_in table.shapes line a fs) x
meaning_of table (Store line a fs f) = machine.Store (element_in table.shapes line a fs) (λ slots. at_line line (flat_value slots [] [] f))
meaning_of table (TestBounds line a fs) = Local (λ c. go_on_if (element_in table.shapes line a fs c.slots) c)
meaning_of table (TestStride line x) = Local (λ c. go_on_if (at_line line (stride_at x c.slots)) c)
meaning_of table (Trips line first last step left target) =
    Local (λ c. begin_trips left target (at_line line (sequence (slot c.slots first) (slot c.slots last) (slot c.slots step))) c)
meaning_of table (Jump target) = Local (λ c. record c { at = target })
meaning_of table (JumpIfZero target x) = Local (λ c. go_if (is_true (slot c.slots x)) target c)
meaning_of table Halt = Local (λ c. record c { status = machine.Finished })
meaning_of table (Limits p) = Local (λ c. go_on_if (at_line p.line (assignment_size p c.slots)) c)
meaning_of table (OwnLimits p) = Local (λ c. go_on_if (at_line p.line (evaluation_size p c.slots)) c)
meaning_of table (ForallLimits line over subscripts) = Local (λ c. go_on_if (at_line line (forall_limits over subscripts c.slots)) c)
meaning_of table (OneToOne line over left) = Local (λ c. go_on_if (at_line line (one_to_one over left c.slots)) c)
meaning_of table (Check line mark) = Local (λ c. go_on_if (at_line line (entered mark (entry_state table.shapes c.slots))) c)
meaning_of table (Par p) = machine.Par (assignment_tuples table.shapes p) (assigned_spot table.shapes p)
meaning_of table (ParForall p) = machine.Par (forall_tuples table.shapes p) (forall_spot table.shapes p)
meaning_of table (ParNest p) = machine.Par (nest_tuples table.shapes p) (nest_spot table.shapes p)
meaning_of table (MakeCopies copy over start beside) =
    machine.MakeCopy copy (λ layouts slots. table.copies layouts (anchor_in slots over beside) (copies_extents over slots)) (λ slots. slots_value slots start)
meaning_of table (MakeCopy copy p) =
    machine.MakeCopy copy (λ layouts slots. table.copies layouts (anchor_in slots p.over p.beside) (evaluation_extents p slots)) (λ slots. pos 0)
meaning_of table (ParCopy copy p) = machine.Par (evaluation_tuples table.shapes p) (copy_spot copy)
meaning_of table (ParForallCopy copy p) = machine.Par (forall_mask_tuples table.shapes p) (copy_spot copy)
meaning_of table Verdict = machine.Verdict
meaning_of table (Reduce p r x) = machine.Reduce (reduction_tuples table.shapes p r.made) (fold_of r.join) x
meaning_of table (Inside line a subs) = Local (λ c. go_on_if (at_line line (all_inside table.shapes a (selections_in c.slots subs))) c)
meaning_of table (Print items) = machine.Print (items_of table.shapes items) (λ bytes. drop 1 bytes ++ 10 ∷ [])
meaning_of table (FoldCopy copy j x) = machine.FoldCopy copy (fold_of j) x
meaning_of table (LastCopy copy set x) = machine.LastCopy copy set is_same_layout x
meaning_of table (ScanCopy copy j) = machine.Scan copy (lies_alone table) (fold_of j)
meaning_of table (Remap line new) = machine.Remap (remappings table.maps new) (table.rounds (remappings table.maps new))
