-- The initial values of declared names, one after the other.
use Rattle.std.proofs.Common.{ℕ, zero, suc, List, [], ◌∷◌, drop}
use Rattle.std.specs.Prelude.{IfSome, slice_get}
use Rattle.name_table.specs.declared.names.Entry.{Entry}
use Rattle.fitting_states.specs.FittingStates.{InitialValueFits, InitialValuesFit}

-- the one at a place, before those after it
pub next_fits : (es : List Entry) (n : ℕ) → IfSome (slice_get es n) (λ e. InitialValueFits e.what) → InitialValuesFit (drop (suc n) es) → InitialValuesFit (drop n es)
next_fits [] zero value rest = tt
next_fits [] (suc n) value rest = tt
next_fits (e ∷ es) zero value rest = (value, rest)
next_fits (e ∷ es) (suc n) value rest = next_fits es n value rest
