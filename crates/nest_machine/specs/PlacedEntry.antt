-- Of a promise.
-- The entry of a nest whose rows lie elsewhere among the machine's.
use Rattle.std.specs.Prelude.{◌≡◌, ℕ, ◌<◌, ◌⊎◌, List, length, replicate, ℤ, Bool, true}
use Rattle.std.specs.List.{Contains, slice_get}
use Rattle.storage.specs.Storage.{Storage, row_of}
use Rattle.nest_syntax.specs.NestKinds.{Kind}
use Rattle.nest_order.specs.Copies.{entry_copies}
use Rattle.machine_steps.specs.Layout.{Layout}
use Rattle.nest_machine.specs.Trace.{Data}
use Rattle.nest_machine.specs.Entries.{Entry, NotMade, AreRows}

-- `start` is the storage of the loops, in which each scalar that the nest assigns is one object. Each row of the nest with its copies is made
-- at the entry, or lies among the machine's rows as it is. How copies lie doesn't depend on how the rows lie that are made
pub record IsPlacedMemory {F : Type 0} (layout : List Layout → List ℤ → Layout) (s : List ℤ) (place : ℕ → ℕ) (is_row : ℕ → Bool) (kinds : ℕ → Kind) (n : ℕ) (start : Storage)
    (es : List Entry) (d : Data F) : Type 0 where
  pub apart : AreRows es
  pub as_many : length d.layouts ≡ length d.rows
  pub few : (e : Entry) → Contains es e → e.row < length d.rows
  pub steady : (layouts : List Layout) → ((r : ℕ) → NotMade r es → slice_get layouts r ≡ slice_get d.layouts r) → layout layouts s ≡ layout d.layouts s
  pub inside : (r : ℕ) → is_row r ≡ true → r < length start
  pub rows : (r : ℕ) → is_row r ≡ true
      → ((e : Entry) × Contains es e × (e.row ≡ place r) × (entry_copies (kinds r) n (row_of start r) ≡ replicate n (e.start s)))
      ⊎ (NotMade (place r) es × (entry_copies (kinds r) n (row_of start r) ≡ row_of d.rows (place r)))
