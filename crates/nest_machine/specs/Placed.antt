-- Of a promise.
-- A nest's storage, whose rows lie elsewhere among the machine's rows.
use Rattle.std.specs.Prelude.{◌≡◌, ℕ, ◌+◌, ◌<◌, List, length, map, ℤ, Bool, true, Some}
use Rattle.storage.specs.Storage.{Storage, Spot, row_of, read}
use Rattle.storage.specs.Effect.{Effect, Skip, Put, Fail}
use Rattle.nest_order.specs.Nest.{Interpretation}
use Rattle.machine_steps.specs.Layout.{Layout, size_of}
use Rattle.machine_steps.specs.Machine.{effect_by, value_by}
use Rattle.nest_machine.specs.BodyCode.{Texts}
use Rattle.nest_machine.specs.ItemsAt.{truth_outcome}
use Rattle.nest_machine.specs.Slots.{SameSlots}

-- `place` is where a row of the nest lies, and `is_row` says which rows the nest has: each is the machine's row at its place. Other rows of
-- the machine may be anything
abbrev pub Placed : (place : ℕ → ℕ) (is_row : ℕ → Bool) → (m rows : Storage) → Type 0
Placed place is_row m rows = (r : ℕ) → is_row r ≡ true → row_of rows (place r) ≡ row_of m r

-- no two rows of the nest lie at one place
abbrev pub IsPlace : (place : ℕ → ℕ) (is_row : ℕ → Bool) → Type 0
IsPlace place is_row = (r q : ℕ) → is_row r ≡ true → is_row q ≡ true → place r ≡ place q → r ≡ q

-- where an element of the nest lies
abbrev pub placed_spot : (ℕ → ℕ) → Spot → Spot
placed_spot place spot = record { row = place spot.row; at = spot.at }

module _ {F : Type 0} where
  -- what is stored there, if anything
  abbrev pub placed_effect : (ℕ → ℕ) → Effect F → Effect F
  placed_effect place Skip = Skip
  placed_effect place (Put spot v) = Put (placed_spot place spot) v
  placed_effect place (Fail f) = Fail f

  -- it stores in a row of the nest, if anywhere
  abbrev pub IsOfRow : (ℕ → Bool) → Effect F → Type 0
  IsOfRow is_row Skip = Unit {0}
  IsOfRow is_row (Put spot v) = is_row spot.row ≡ true
  IsOfRow is_row (Fail f) = Unit {0}

-- over the machine's rows the texts are what an interpretation says of them over the nest's, by slots that are those of the entry but for
-- the indices of inner loops
pub record PlacedMean {A C F P Q : Type 0} (texts : Texts A C F) (interpretation : Interpretation P Q F) (action_at : A → List ℤ → ℕ → P) (condition_at : C → List ℤ → ℕ → Q)
    (place : ℕ → ℕ) (is_row is_index : ℕ → Bool) (b : ℕ) (entry : List ℤ) : Type 0 where
  pub action : (a : A) (s : List ℤ) → SameSlots is_index b entry s → (i : ℕ) (m rows : Storage) → Placed place is_row m rows
      → (effect_by (texts.left a s i) (texts.outcome a s i (map (value_by (read rows)) (texts.reads a s i))) ≡ placed_effect place (interpretation.effect (action_at a s i) m))
      × IsOfRow is_row (interpretation.effect (action_at a s i) m)
  pub condition : (c : C) (s : List ℤ) → SameSlots is_index b entry s → (i : ℕ) (m rows : Storage) → Placed place is_row m rows
      → texts.condition c s i (map (value_by (read rows)) (texts.condition_reads c s i)) ≡ truth_outcome (interpretation.condition (condition_at c s i) m)

-- There are n iterations, and copies have as many elements. Condition k of the nest, of so many, is in row `row + k` of the nest, which has n
-- elements and lies at `stored + k`. A mark lies in no row of the nest
pub record PlacedTexts {A C F : Type 0} (texts : Texts A C F) (size : List ℤ → ℕ) (layout : List Layout → List ℤ → Layout) (stored row count : ℕ) (place : ℕ → ℕ)
    (is_row is_index : ℕ → Bool) (start : Storage) (n b : ℕ) (entry : List ℤ) : Type 0 where
  pub sized : (s : List ℤ) → SameSlots is_index b entry s → size s ≡ n
  pub laid : (layouts : List Layout) (s : List ℤ) → SameSlots is_index b entry s → size_of (layout layouts s) ≡ n
  pub conditions : (k : ℕ) → k < count → (place (row + k) ≡ stored + k) × (is_row (row + k) ≡ true) × (length (row_of start (row + k)) ≡ n)
  pub marks : (a : A) (q : ℕ) → texts.mark a ≡ Some q → (r : ℕ) → is_row r ≡ true → place r ≡ q → ⊥
