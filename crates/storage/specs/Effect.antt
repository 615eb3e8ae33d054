-- Of the claim.
-- What a part does at an iteration.
use Rattle.std.specs.Prelude.{ℕ, zero, suc, ℤ, Result, Ok, Err}
use Rattle.storage.specs.Storage.{Storage, Spot, write}

-- nothing, one store, or a fault. A part whose condition fails has Skip, which is no store of the old value
pub data Effect (F : Type 0) : Type 0 where
  Skip : Effect F
  Put : Spot → ℤ → Effect F
  Fail : F → Effect F

module _ {F : Type 0} where
  -- the storage after an effect, going on past a fault. A fault stores nothing
  abbrev pub apply : Effect F → Storage → Storage
  apply Skip m = m
  apply (Put spot value) m = write m spot value
  apply (Fail fault) m = m

  -- the storage after an effect, or its fault. Here a fault ends what follows
  abbrev pub then_apply : Effect F → Storage → Result Storage F
  then_apply Skip m = Ok m
  then_apply (Put spot value) m = Ok (write m spot value)
  then_apply (Fail fault) m = Err fault

  -- the storage after the effects of the first iterations. They are given, so none depends on an earlier store
  abbrev pub scatter : (ℕ → Effect F) → ℕ → Storage → Storage
  scatter effect zero m = m
  scatter effect (suc i) m = apply (effect i) (scatter effect i m)
