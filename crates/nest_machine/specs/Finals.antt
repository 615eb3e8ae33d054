-- Of a promise.
-- How a nest ends: its Verdict, and its scalars by their copies.
use Rattle.std.specs.Prelude.{◌≡◌, ℕ, List, [], ◌∷◌, fold, slice_set, ℤ, Option, Some, None, Bool}
use Rattle.op_tables.specs.Joins.{join, unit}
use Rattle.storage.specs.Storage.{Storage, row_of}
use Rattle.machine_steps.specs.Layout.{Layout}
use Rattle.machine_steps.specs.Instr.{Faulted, Instr, FoldCopy, LastCopy}
use Rattle.machine_steps.specs.Machine.{Machine, steps, last_of}
use Rattle.nest_syntax.specs.Finals.{Final, Folds, Lasts}
use Rattle.nest_machine.specs.Counting.{slot}
use Rattle.nest_machine.specs.Trace.{Data}
use Rattle.nest_machine.specs.Stands.{stands, StaysQuiet}

-- the slot that the scalar has
abbrev pub final_slot : Final → ℕ
final_slot (Folds op r x) = x
final_slot (Lasts r q x) = x

-- `alike` says which layouts are the same
module _ {F : Type 0} (alike : Layout → Layout → Bool) where
  -- its copies are folded into its slot, or its slot gets the copy at the last mark
  abbrev pub final_code : Final → Instr F
  final_code (Folds op r x) = FoldCopy r (record { join = join op; unit = unit op }) x
  final_code (Lasts r q x) = LastCopy r q alike x

  abbrev pub finals_code : List Final → List (Instr F)
  finals_code [] = []
  finals_code (f ∷ fs) = final_code f ∷ finals_code fs

-- a scalar that no iteration assigned keeps its value
abbrev pub set_last : Option ℤ → ℕ → List ℤ → List ℤ
set_last None x s = s
set_last (Some v) x s = slice_set s x v

-- the slots after them
module _ (alike : Layout → Layout → Bool) (layouts : List Layout) (rows : Storage) where
  abbrev pub final_slots : Final → List ℤ → List ℤ
  final_slots (Folds op r x) s = slice_set s x (join op (slot s x) (fold (join op) (unit op) (row_of rows r)))
  final_slots (Lasts r q x) s = set_last (last_of alike layouts rows r q) x s

  abbrev pub finals_slots : List Final → List ℤ → List ℤ
  finals_slots [] s = s
  finals_slots (f ∷ fs) s = finals_slots fs (final_slots f s)

-- the slot is that of none
abbrev pub NotAmong : ℕ → List Final → Type 0
NotAmong x [] = Unit {0}
NotAmong x (f ∷ fs) = (final_slot f ≡ x → ⊥) × NotAmong x fs

-- no two have one slot
abbrev pub AreApart : List Final → Type 0
AreApart [] = Unit {0}
AreApart (f ∷ fs) = NotAmong (final_slot f) fs × AreApart fs

-- the machine ends with a fault, keeps none, has printed nothing, and has come to quiet places alone
pub record EndsFaulted {C F : Type 0} (meaning : C → Instr F) (code : List C) (is_quiet : ℕ → Bool) (joined : ℤ) (line printed : List ℕ) (pc : ℕ) (entry : List ℤ) (d : Data F) (fault : F) : Type 0 where
  pub count : ℕ
  pub last : Machine C F
  pub reach : steps meaning count (stands meaning code joined line printed pc entry d) ≡ last
  pub quiet : StaysQuiet meaning is_quiet count (stands meaning code joined line printed pc entry d)
  pub status : last.control.status ≡ Faulted fault
  pub bytes : last.printed ≡ printed
  pub kept : last.kept ≡ None
