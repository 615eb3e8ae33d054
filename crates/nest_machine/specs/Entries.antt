-- Of a promise.
-- The code of a nest: copies are made, then the body runs, and then the Verdict and the scalars.
use Rattle.std.specs.Prelude.{◌≡◌, ℕ, zero, suc, ◌+◌, List, [], ◌∷◌, ◌++◌, length, replicate, slice_set, ℤ, pos, Bool, None}
use Rattle.op_tables.specs.Joins.{unit}
use Rattle.storage.specs.Storage.{Storage}
use Rattle.machine_steps.specs.Layout.{Layout, size_of}
use Rattle.machine_steps.specs.Instr.{Instr, MakeCopy, Verdict}
use Rattle.nest_machine.specs.Counting.{slot, Counting}
use Rattle.nest_machine.specs.Body.{Body, count_body}
use Rattle.nest_machine.specs.BodyCode.{Texts, body_code}
use Rattle.nest_machine.specs.Trace.{Data, trace, all_traced}
use Rattle.nest_syntax.specs.Finals.{Final, Folds, Lasts}
use Rattle.nest_machine.specs.Finals.{finals_code}

-- a copy that is made at the entry, and its value there
pub record Entry : Type 0 where
  pub row : ℕ
  pub start : List ℤ → ℤ

-- marks and conditions
abbrev pub at_zero : ℕ → Entry
at_zero r = record { row = r; start = λ s. pos 0 }

-- a REDUCTION variable's copies begin with the unit, and any other scalar's with its value; no mark is set
abbrev pub final_entries : Final → List Entry
final_entries (Folds op r x) = record { row = r; start = λ s. unit op } ∷ []
final_entries (Lasts r q x) = record { row = r; start = λ s. slot s x } ∷ at_zero q ∷ []

abbrev pub finals_entries : List Final → List Entry
finals_entries [] = []
finals_entries (f ∷ fs) = final_entries f ++ finals_entries fs

-- so many stored conditions, from a row on
abbrev pub conditions_entries : (stored count : ℕ) → List Entry
conditions_entries stored zero = []
conditions_entries stored (suc count) = conditions_entries stored count ++ at_zero (stored + count) ∷ []

-- all copies of a nest: those of its scalars, with their marks, and its conditions
abbrev pub nest_entries : List Final → (stored count : ℕ) → List Entry
nest_entries finals stored count = finals_entries finals ++ conditions_entries stored count

module _ {F : Type 0} (layout : List Layout → List ℤ → Layout) where
  -- how they are made, one after another
  abbrev pub entries_code : List Entry → List (Instr F)
  entries_code [] = []
  entries_code (e ∷ es) = MakeCopy e.row layout e.start ∷ entries_code es

  -- what making them does
  abbrev pub made : Entry → List ℤ → Data F → Data F
  made e s d = record {
    rows = slice_set d.rows e.row (replicate (size_of (layout d.layouts s)) (e.start s));
    layouts = slice_set d.layouts e.row (layout d.layouts s);
    kept = d.kept;
    parts = d.parts;
  }

  abbrev pub all_made : List Entry → List ℤ → Data F → Data F
  all_made [] s d = d
  all_made (e ∷ es) s d = all_made es s (made e s d)

-- the row is that of none
abbrev pub NotMade : ℕ → List Entry → Type 0
NotMade r [] = Unit {0}
NotMade r (e ∷ es) = (e.row ≡ r → ⊥) × NotMade r es

-- no row is made twice
abbrev pub AreRows : List Entry → Type 0
AreRows [] = Unit {0}
AreRows (e ∷ es) = NotMade e.row es × AreRows es

-- the rows after the copies are made and the body has run
abbrev pub rows_after : {A C F : Type 0} → Texts A C F → Counting F → (List ℤ → ℕ) → (List Layout → List ℤ → Layout) → (stored : ℕ) → List Final → Body A C → (b : ℕ) → List ℤ → Data F
    → Storage
rows_after texts counting size layout stored finals body b s d =
    (all_traced layout (trace texts counting size stored body None 0 b s) (all_made layout (nest_entries finals stored (count_body body)) s d)).rows

module _ {A C F : Type 0} (texts : Texts A C F) (counting : Counting F) (size : List ℤ → ℕ) (layout : List Layout → List ℤ → Layout) (stored : ℕ) (alike : Layout → Layout → Bool) where
  -- the code of a body at a place, the Verdict, and the scalars
  abbrev pub ending_code : List Final → Body A C → (b pc : ℕ) → List (Instr F)
  ending_code finals body b pc = body_code texts counting size layout stored body None 0 b pc ++ Verdict ∷ finals_code alike finals

  -- the code of a nest at a place, after that of its bounds and its check
  abbrev pub nest_code : List Final → Body A C → (b pc : ℕ) → List (Instr F)
  nest_code finals body b pc =
      let c = entries_code layout (nest_entries finals stored (count_body body)) in c ++ ending_code finals body b (pc + length c)
