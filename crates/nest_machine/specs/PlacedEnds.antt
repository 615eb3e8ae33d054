-- Of a promise.
-- How a nest ends whose rows lie elsewhere among the machine's.
use Rattle.std.specs.Prelude.{◌≡◌, ℕ, ◌+◌, ◌<◌, ◌⊎◌, List, length, ℤ, Bool, true, false, Option, Some, None}
use Rattle.std.specs.List.{Contains, slice_get}
use Rattle.storage.specs.Storage.{Storage, Spot, row_of, read}
use Rattle.nest_syntax.specs.NestKinds.{Kind, Shared, New, Assigned, Reduced}
use Rattle.nest_order.specs.Copies.{scalar_at}
use Rattle.machine_steps.specs.Instr.{Nothing, Instr}
use Rattle.machine_steps.specs.Machine.{steps}
use Rattle.nest_machine.specs.Counting.{slot}
use Rattle.nest_machine.specs.BodyCode.{Texts, copy_spot}
use Rattle.nest_machine.specs.Trace.{Data}
use Rattle.nest_machine.specs.Stands.{stands, StaysQuiet}
use Rattle.nest_syntax.specs.Finals.{Final, Folds, Lasts}
use Rattle.nest_machine.specs.Finals.{final_slot, NotAmong}
use Rattle.nest_machine.specs.Entries.{NotMade, nest_entries}
use Rattle.nest_machine.specs.Placed.{placed_spot}

-- ---- a scalar with copies in row r of the machine and marks in row q

-- it is no element of the row
abbrev pub OffRow : ℕ → Option Spot → Type 0
OffRow r None = Unit {0}
OffRow r (Some spot) = spot.row ≡ r → ⊥

-- A text either assigns no copy of it and has another mark or none; or it assigns the iteration's copy, has this mark, and comes to a value
-- or a fault. No stored condition, of so many, is in either row
pub record PairedTexts {A C F : Type 0} (texts : Texts A C F) (stored count r q : ℕ) : Type 0 where
  pub text : (a : A)
      → (((s : List ℤ) (i : ℕ) → OffRow r (texts.left a s i)) × (texts.mark a ≡ Some q → ⊥))
      ⊎ (((s : List ℤ) (i : ℕ) → texts.left a s i ≡ copy_spot r s i) × (texts.mark a ≡ Some q)
      × ((s : List ℤ) (i : ℕ) (values : List ℤ) → texts.outcome a s i values ≡ Nothing → ⊥))
  pub apart : (k : ℕ) → k < count → (stored + k ≡ r → ⊥) × (stored + k ≡ q → ⊥)

-- ---- which scalar of the nest a final of the machine is

module _ {A C F : Type 0} (texts : Texts A C F) (stored row count b : ℕ) (place : ℕ → ℕ) (is_row is_index : ℕ → Bool) (kinds : ℕ → Kind) (start : Storage) (entry : List ℤ) where
  -- its copies are in row r of the nest, which is before those of conditions and lies at mr, and slot x has its value at the entry
  pub record OfScalar (r mr x : ℕ) : Type 0 where
    pub lies : mr ≡ place r
    pub own : is_row r ≡ true
    pub below : r < row
    pub slot_below : x < b
    pub value : slot entry x ≡ read start (scalar_at r)
    pub no_index : is_index x ≡ false

  -- its marks are in a row that is none of the nest's
  pub record OfMarks (mr q : ℕ) : Type 0 where
    pub off : (r : ℕ) → is_row r ≡ true → place r ≡ q → ⊥
    pub paired : PairedTexts texts stored count mr q

  -- the final is that of the scalar in row r of the nest
  abbrev pub IsPlacedFinal : Final → ℕ → Type 0
  IsPlacedFinal (Folds op mr x) r = OfScalar r mr x × (kinds r ≡ Reduced op)
  IsPlacedFinal (Lasts mr q x) r = OfScalar r mr x × ((kinds r ≡ New) ⊎ (kinds r ≡ Assigned)) × OfMarks mr q

-- The machine comes after the nest, at `to`, with the arrays and the scalars of a storage m. `after` and `rows` are the slots and the rows after the
-- body: an inner index is what the body leaves, and the other slots before b are as at the entry. Rows before those of conditions keep their extents and lie as they
-- did, but for the copies that are made, and are the same where no text stores and no marks lie. On the way it comes to quiet places alone
module _ {I A C F : Type 0} (meaning : I → Instr F) (code : List I) (is_quiet : ℕ → Bool) (joined : ℤ) (line printed : List ℕ) (pc to : ℕ) (texts : Texts A C F) (stored row count b : ℕ)
    (place : ℕ → ℕ) (is_row is_index : ℕ → Bool) (kinds : ℕ → Kind) (start : Storage) (finals : List Final) (after entry : List ℤ) (rows : Storage) (d : Data F) where
  pub record PlacedAfter (m : Storage) : Type 0 where
    pub count' : ℕ
    pub slots : List ℤ
    pub data' : Data F
    pub reach : steps meaning count' (stands meaning code joined line printed pc entry d) ≡ stands meaning code joined line printed to slots data'
    pub quiet : StaysQuiet meaning is_quiet count' (stands meaning code joined line printed pc entry d)
    pub rows_are : data'.rows ≡ rows
    pub kept : data'.kept ≡ None
    pub parts : data'.parts ≡ 0
    pub size : length slots ≡ length entry
    pub long : length data'.rows ≡ length d.rows
    pub laid : length data'.layouts ≡ length d.layouts
    pub extents : (r : ℕ) → r < stored → NotMade r (nest_entries finals stored count) → length (row_of data'.rows r) ≡ length (row_of d.rows r)
    pub lie : (r : ℕ) → r < stored → NotMade r (nest_entries finals stored count) → slice_get data'.layouts r ≡ slice_get d.layouts r
    pub untouched : (r : ℕ) → r < stored → NotMade r (nest_entries finals stored count) → ((a : A) (s : List ℤ) (i : ℕ) → OffRow r (texts.left a s i))
        → ((a : A) → texts.mark a ≡ Some r → ⊥) → row_of data'.rows r ≡ row_of d.rows r
    pub shared : (spot : Spot) → spot.row < row → is_row spot.row ≡ true → kinds spot.row ≡ Shared → read data'.rows (placed_spot place spot) ≡ read m spot
    pub scalars : (f : Final) (r : ℕ) → Contains finals f → IsPlacedFinal texts stored row count b place is_row is_index kinds start entry f r
        → slot slots (final_slot f) ≡ read m (scalar_at r)
    pub others : (x : ℕ) → x < b → NotAmong x finals → is_index x ≡ false → slot slots x ≡ slot entry x
    pub indices : (x : ℕ) → NotAmong x finals → slot slots x ≡ slot after x
