-- Of a promise.
-- How inner loops count their trips, by the numbers in their slots.
use Rattle.std.specs.Prelude.{◌≡◌, ℕ, zero, suc, ◌+◌, ◌<◌, ◌≤◌, List, slice_index_or, slice_set, ℤ, pos, Bool, true, false}
use Rattle.machine_steps.specs.Instr.{Control}

-- the value of a slot; there is 0 where there is none
abbrev pub slot : List ℤ → ℕ → ℤ
slot slots k = slice_index_or slots k (pos 0)

-- `trips b target` is what the instruction does that begins a loop whose first value, last value and step stand in slots from b on;
-- `is_step` says which steps it takes, and `count` how many trips there are by these three. `left` is what stands in a slot where so
-- many trips are left, `less` is that with one trip less, and `is_left` says whether one is left. `advance` is the index with the step added
pub record Counting (F : Type 0) : Type 0 where
  pub trips : (b target : ℕ) → Control F → Control F
  pub is_step : ℤ → Bool
  pub count : ℤ → ℤ → ℤ → ℕ
  pub left : ℕ → ℤ
  pub less : ℤ → ℤ
  pub is_left : ℤ → Bool
  pub advance : ℤ → ℤ → ℤ

-- the iteration count of a loop whose first value, last value and step stand in slots from b on
abbrev pub trips_at : {F : Type 0} → Counting F → ℕ → List ℤ → ℕ
trips_at counting b slots = counting.count (slot slots b) (slot slots (b + 1)) (slot slots (b + 2))

-- where no trip is to be made the run goes on at the target, else a slot gets how many are left after the first
abbrev pub entering : {F : Type 0} → Counting F → (left target trips : ℕ) → Control F → Control F
entering counting left target zero c = record c { at = target }
entering counting left target (suc n) c = record { at = c.at + 1; slots = slice_set c.slots left (counting.left n); status = c.status }

-- the loops count right: they enter by their iteration count, which is bounded, and up to that bound the slot tells whether a trip is left
pub record IsCounting {F : Type 0} (counting : Counting F) : Type 0 where
  pub most : ℕ
  pub enters : (b target : ℕ) (c : Control F) → counting.is_step (slot c.slots (b + 2)) ≡ true
      → counting.trips b target c ≡ entering counting (b + 3) target (trips_at counting b c.slots) c
  pub bound : (first last step : ℤ) → counting.count first last step ≤ most
  pub none : counting.is_left (counting.left 0) ≡ false
  pub some : (k : ℕ) → suc k < most → counting.is_left (counting.left (suc k)) ≡ true
  pub less : (k : ℕ) → counting.less (counting.left (suc k)) ≡ counting.left k
