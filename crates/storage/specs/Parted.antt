-- Of a promise.
-- Parts one after another, each at all iterations before the next, and the faults that are kept meanwhile.
use Rattle.std.specs.Prelude.{◌≡◌, ℕ, zero, suc, ◌<◌, ◌⊎◌}
use Rattle.storage.specs.Storage.{Storage}
use Rattle.storage.specs.Effect.{Effect, Fail, scatter}

-- `act i j m` is what part j does at iteration i from the storage m, and `start` is the storage before the first part
module _ {F : Type 0} (act : ℕ → ℕ → Storage → Effect F) (start : Storage) where
  -- the parted order: each part at all n iterations before the next part. All its values are taken before any is
  -- stored, and an iteration with a fault goes on in the later parts
  abbrev pub parted : ℕ → ℕ → Storage
  parted n zero = start
  parted n (suc j) = scatter (λ i. act i j (parted n j)) n (parted n j)

  -- what part j does at iteration i in the parted order. Its faults are kept, and end nothing
  abbrev pub kept : ℕ → ℕ → ℕ → Effect F
  kept n i j = act i j (parted n j)

  -- no part keeps a fault at an iteration, also where the plain order would have ended before
  abbrev pub NoneKept : ℕ → ℕ → Type 0
  NoneKept n parts = (i j : ℕ) (fault : F) → i < n → j < parts → kept n i j ≡ Fail fault → ⊥

  -- a fault is kept at iteration i in part j, and none at a smaller key. The iteration counts first, then the number of
  -- parts applied before: the least key isn't the fault that the parted order meets first
  pub record IsLeastKept (n parts i j : ℕ) (fault : F) : Type 0 where
    pub iteration : i < n
    pub part : j < parts
    pub here : kept n i j ≡ Fail fault
    pub sooner : (i' j' : ℕ) (other : F) → i' < n → j' < parts → (i' < i) ⊎ ((i' ≡ i) × (j' < j)) → kept n i' j' ≡ Fail other → ⊥
