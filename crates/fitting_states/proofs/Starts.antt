-- The state at the start is of 64 bits where the initial values are.
use Rattle.std.proofs.Common.{ℕ, zero, suc, List, [], ◌∷◌, map, replicate, get_or, ℤ, pos, FitsSigned, w64}
use Rattle.expression_rules.specs.Dims.{elements}
use Rattle.array_meaning.specs.Entry.{Entry}
use Rattle.array_meaning.specs.What.{What}
use Rattle.array_meaning.specs.What.TheVariants as what
use Rattle.array_meaning.specs.State.{no_array}
use Rattle.array_meaning.specs.Resolution.{initial_scalar, initial_array, initial_state}
use Rattle.fitting_states.specs.FittingStates.{StateFits, InitialValueFits, InitialValuesFit}
use Rattle.fitting_states.proofs.OperatorRanges.{zero_fits}

repeated_fits : (n : ℕ) (v : ℤ) → FitsSigned w64 v → (p : ℕ) → FitsSigned w64 (get_or (replicate n v) p (pos 0))
repeated_fits zero v f p = zero_fits
repeated_fits (suc n) v f zero = f
repeated_fits (suc n) v f (suc p) = repeated_fits n v f p

scalar_fits : (w : What) → InitialValueFits w → FitsSigned w64 (initial_scalar w)
scalar_fits (what.Scalar v) f = f
scalar_fits w f = zero_fits

array_fits : (w : What) → InitialValueFits w → (p : ℕ) → FitsSigned w64 (get_or (initial_array w).elements p (pos 0))
array_fits (what.Array ds v) f p = repeated_fits (elements ds) v f p
array_fits w f p = zero_fits

scalars_fit : (names : List Entry) → InitialValuesFit names → (k : ℕ) → FitsSigned w64 (get_or (map (λ e. initial_scalar e.what) names) k (pos 0))
scalars_fit [] h k = zero_fits
scalars_fit (e ∷ es) h zero = scalar_fits e.what h.0
scalars_fit (e ∷ es) h (suc k) = scalars_fit es h.1 k

arrays_fit : (names : List Entry) → InitialValuesFit names → (a p : ℕ)
    → FitsSigned w64 (get_or (get_or (map (λ e. initial_array e.what) names) a no_array).elements p (pos 0))
arrays_fit [] h a p = zero_fits
arrays_fit (e ∷ es) h zero p = array_fits e.what h.0 p
arrays_fit (e ∷ es) h (suc a) p = arrays_fit es h.1 a p

pub initial_fits : (names : List Entry) → InitialValuesFit names → StateFits (initial_state names)
initial_fits names h = record { scalars = scalars_fit names h; elements = arrays_fit names h }
