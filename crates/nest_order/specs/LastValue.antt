-- Of a promise.
-- A scalar that the iterations of a nest assign, each in a copy of its own.
use Rattle.std.specs.Prelude.{ℕ, zero, suc, ℤ, Bool, false, ◌||◌, if◌then◌else◌}
use Rattle.storage.specs.Storage.{Storage, Spot, is_same_spot, read}
use Rattle.storage.specs.Effect.{Effect, Skip, Put, Fail}
use Rattle.nest_order.specs.Stores.{noted_by_all}

-- the copy that iteration i has: the row of copies has a position for each iteration
abbrev pub copy_at : ℕ → ℕ → Spot
copy_at row i = record { row = row; at = i }

-- the scalar after a store at iteration i. A store to another iteration's copy isn't one of it
abbrev pub note_scalar : ℕ → ℕ → Spot → ℤ → ℤ → ℤ
note_scalar row i spot value before = if is_same_spot spot (copy_at row i) then value else before

module _ {F : Type 0} where
  -- a store to the spot, also of the value that stood there. A part that is skipped or that faults is none
  abbrev pub stores_to : Effect F → Spot → Bool
  stores_to Skip spot = false
  stores_to (Put other value) spot = is_same_spot other spot
  stores_to (Fail fault) spot = false

  -- `effect i j` is what part j does at iteration i, and `row` is the row of the scalar's copies
  module _ (effect : ℕ → ℕ → Effect F) (row : ℕ) where
    -- some part of the first ones assigns the scalar at iteration i. A part that stands there and is skipped doesn't
    abbrev pub assigns : ℕ → ℕ → Bool
    assigns i zero = false
    assigns i (suc j) = stores_to (effect i j) (copy_at row i) || assigns i j

    -- one scalar after the first iterations, where each store to a copy is a store to it, whichever iteration's copy it is.
    -- No iteration reads it here
    abbrev pub scalar_after : (parts : ℕ) → ℤ → ℕ → ℤ
    scalar_after parts entry n = noted_by_all (note_scalar row) effect parts entry n

    -- the copy of the last of the first iterations that assigns the scalar, else the entry value. The last iteration's
    -- own copy doesn't serve where that iteration assigns nothing
    abbrev pub last_value : (parts : ℕ) → ℤ → Storage → ℕ → ℤ
    last_value parts entry m zero = entry
    last_value parts entry m (suc i) = if assigns i parts then read m (copy_at row i) else last_value parts entry m i
