-- Of a promise.
-- How runs end that end as the statements of the law of nests.
use Rattle.std.specs.Prelude.{◌≡◌, ℕ, length, Bool, true, Result, Ok, Err}
use Rattle.storage.specs.Storage.{Storage, row_of}
use Rattle.nest_syntax.specs.NestKinds.{Kind, has_copies}
use Rattle.array_meaning.specs.Faults.{Fault}
use Rattle.array_meaning.specs.State.{State}
use Rattle.array_meaning.specs.Runs.{Run, normal, Faulted}
use Rattle.nest_items.specs.StateStorage.{state_of}
use Rattle.nest_items.specs.Settled.{SameBut, SameIn}

module _ (kinds : ℕ → Kind) where
  -- each assigned scalar has its row
  abbrev pub HasRows : Storage → Type 0
  HasRows m = (k : ℕ) → has_copies (kinds k) ≡ true → length (row_of m k) ≡ 1

  -- a storage at the entry: the state's, with any rows after those
  pub record IsOpening (s : State) (m : Storage) : Type 0 where
    pub state : state_of kinds s m ≡ s
    pub rows : HasRows m

  -- A run ends as statements do from the state s at the entry: normally, with the state of their storage but for free scalars, which are as in
  -- the state z; or with their fault, and with what was printed before
  abbrev pub EndsAs : (ℕ → Bool) → State → State → Run → Result Storage Fault → Type 0
  EndsAs free s z run (Ok m) = (r : State) × (run ≡ normal r) × SameBut free r (state_of kinds s m) × HasRows m × SameIn free z r
  EndsAs free s z run (Err f) = (r : State) × (run ≡ record { state = r; completion = Faulted f }) × (r.printed ≡ s.printed)
