-- Of a promise.
-- The orders of the parts of a nest: iteration by iteration, part by part, and each iteration alone.
use Rattle.std.specs.Prelude.{◌≡◌, ℕ, zero, suc, ◌<◌, List, ℤ, Result}
use Rattle.std.specs.List.{Contains}
use Rattle.nest_order.specs.Turns.{in_turn}
use Rattle.storage.specs.Storage.{Storage, Spot, read, Alike}
use Rattle.storage.specs.Effect.{Effect, Put, apply, then_apply}

-- `act i j m` is what part j does at iteration i from the storage m, and `start` is the storage at the nest's entry
module _ {F : Type 0} (act : ℕ → ℕ → Storage → Effect F) (start : Storage) where
  -- the first parts of one iteration alone, from the entry. It goes on past its faults, which the plain order doesn't
  abbrev pub alone : ℕ → ℕ → Storage
  alone i zero = start
  alone i (suc j) = apply (act i j (alone i j)) (alone i j)

  -- the first parts of one iteration in the plain order, up to the first fault
  abbrev pub plain_parts : ℕ → ℕ → Storage → Result Storage F
  plain_parts i parts m = in_turn parts (λ j m'. then_apply (act i j m') m') m

  -- the plain order: all parts of an iteration, and only then the next iteration, up to the first fault
  abbrev pub plain : ℕ → ℕ → Result Storage F
  plain parts n = in_turn n (λ i. plain_parts i parts) start

  -- No iteration stores where another one touches, and what its parts do depends on what it touches alone. This is
  -- asked of the iteration alone, and not of every storage: a part is free where the iteration never comes
  pub record Apart (n parts : ℕ) (touches : ℕ → List Spot) : Type 0 where
    pub local : (i j : ℕ) (m : Storage) → i < n → j < parts → Alike m start
        → ((spot : Spot) → Contains (touches i) spot → read m spot ≡ read (alone i j) spot) → act i j m ≡ act i j (alone i j)
    pub stores : (i j : ℕ) (spot : Spot) (value : ℤ) → i < n → j < parts → act i j (alone i j) ≡ Put spot value → Contains (touches i) spot
    pub apart : (i i' j : ℕ) (spot : Spot) (value : ℤ) → i < n → i' < n → j < parts → (i ≡ i' → ⊥)
        → act i j (alone i j) ≡ Put spot value → Contains (touches i') spot → ⊥
