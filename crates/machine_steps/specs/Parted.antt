-- Of a promise.
-- Parallel statements one after the other: they are the parted order of a nest.
use Rattle.std.specs.Prelude.{◌≡◌, ℕ, zero, suc, ◌+◌, ◌<◌, ℤ, List, Option, None}
use Rattle.storage.specs.Storage.{Storage, Spot, read}
use Rattle.storage.specs.Effect.{Effect}
use Rattle.storage.specs.Parted.{parted}
use Rattle.machine_steps.specs.Instr.{Running, Outcome, Breaks, Tuples, Instr, Par}
use Rattle.machine_steps.specs.Machine.{Machine, Kept, outcome_of, effect_by, keep, instr_at}

-- what part j comes to at iteration i, and which element is assigned there
module _ {F : Type 0} (outcome : ℕ → ℕ → Storage → Outcome F) (left : ℕ → ℕ → Option Spot) where
  -- what it does
  abbrev pub act_by : ℕ → ℕ → Storage → Effect F
  act_by i j rows = effect_by (left i j) (outcome i j rows)

  -- the fault that is kept after the first parts, where part j has the number `number j`
  abbrev pub kept_after : Storage → (n : ℕ) → (number : ℕ → ℕ) → ℕ → Option (Kept F)
  kept_after start n number zero = None
  kept_after start n number (suc k) = keep (λ i. outcome i k (parted act_by start n k)) (number k) n (kept_after start n number k)

  -- the numbers rise after a part that may fault
  abbrev pub AreRising : (number : ℕ → ℕ) → ℕ → Type 0
  AreRising number k = (i j later : ℕ) (rows : Storage) (fault : F) → outcome i j rows ≡ Breaks fault → j < later → later < k → number j < number later

module _ {C F : Type 0} (meaning : C → Instr F) (tuples : ℕ → Tuples F) (left : ℕ → List ℤ → ℕ → Option Spot) (n : ℕ) where
  abbrev pub par_outcome : List ℤ → ℕ → ℕ → Storage → Outcome F
  par_outcome slots i j rows = outcome_of (tuples j) slots (read rows) i

  abbrev pub par_left : List ℤ → ℕ → ℕ → Option Spot
  par_left slots i j = left j slots i

  -- so many parallel statements stand from a place on, each with n tuples
  abbrev pub AreParts : List C → ℕ → List ℤ → ℕ → Type 0
  AreParts code at slots k = (j : ℕ) → j < k → (instr_at meaning code (at + j) ≡ Par (tuples j) (left j)) × ((tuples j).count slots ≡ n)

  -- the machine m' is after the first k of them: all is as in m but for the place, the rows and what is kept
  pub record IsAfter (m : Machine C F) (k : ℕ) (m' : Machine C F) : Type 0 where
    pub code : m'.code ≡ m.code
    pub at : m'.control.at ≡ m.control.at + k
    pub slots : m'.control.slots ≡ m.control.slots
    pub status : m'.control.status ≡ Running
    pub layouts : m'.layouts ≡ m.layouts
    pub printed : m'.printed ≡ m.printed
    pub rows : m'.rows ≡ parted (act_by (par_outcome m.control.slots) (par_left m.control.slots)) m.rows n k
    pub kept : m'.kept ≡ kept_after (par_outcome m.control.slots) (par_left m.control.slots) m.rows n (λ j. j) k
    pub parts : m'.parts ≡ k
