-- A state of 64 bits stays one where a value of 64 bits is stored.
use Rattle.std.proofs.Common.{ℕ, zero, suc, List, [], ◌∷◌, get_or, set, Option, Some, None, ℤ, pos, FitsSigned, w64}
use Rattle.std.specs.List.{AllByRecursion}
use Rattle.array_meaning.specs.State.{State, Array, no_array, array, set_scalar, store, stored, store_all}
use Rattle.array_meaning.specs.declared.sections.Store.{Store}
use Rattle.fitting_states.specs.FittingStates.{StateFits}
use Rattle.fitting_states.proofs.OperatorRanges.{zero_fits}

-- each element of a list, also past its end
module _ {A : Type 0} (P : A → Type 0) (none : A) where
  each_set : (xs : List A) (i : ℕ) (v : A) → P none → P v → ((k : ℕ) → P (get_or xs k none)) → (j : ℕ) → P (get_or (set xs i v) j none)
  each_set [] i v z f h j = z
  each_set (x ∷ xs) zero v z f h zero = f
  each_set (x ∷ xs) zero v z f h (suc j) = h (suc j)
  each_set (x ∷ xs) (suc i) v z f h zero = h 0
  each_set (x ∷ xs) (suc i) v z f h (suc j) = each_set xs i v z f (λ k. h (suc k)) j

-- ---- scalars and elements

pub set_scalar_fits : (s : State) (k : ℕ) (v : ℤ) → StateFits s → FitsSigned w64 v → StateFits (set_scalar s k v)
set_scalar_fits s k v h f = record { scalars = each_set (FitsSigned w64) (pos 0) s.scalars k v zero_fits f h.scalars; elements = h.elements }

abbrev ElementsFit : Array → Type 0
ElementsFit x = (p : ℕ) → FitsSigned w64 (get_or x.elements p (pos 0))

pub store_fits : (s : State) (a k : ℕ) (v : ℤ) → StateFits s → FitsSigned w64 v → StateFits (store s a k v)
store_fits s a k v h f = record {
  scalars = h.scalars;
  elements = each_set ElementsFit no_array s.arrays a (record (array s a) { elements = set (array s a).elements k v }) (λ p. zero_fits)
      (each_set (FitsSigned w64) (pos 0) (array s a).elements k v zero_fits f (h.elements a)) h.elements;
}

-- what is to be stored, where there is anything
abbrev pub StoreFits : Option Store → Type 0
StoreFits None = Unit {0}
StoreFits (Some st) = FitsSigned w64 st.value

stored_fits : (a : ℕ) (s : State) (st : Option Store) → StateFits s → StoreFits st → StateFits (stored a s st)
stored_fits a s None h f = h
stored_fits a s (Some st) h f = store_fits s a st.place st.value h f

pub store_all_fits : (a : ℕ) (s : State) (stores : List (Option Store)) → StateFits s → AllByRecursion StoreFits stores → StateFits (store_all s a stores)
store_all_fits a s [] h f = h
store_all_fits a s (st ∷ stores) h f = store_all_fits a (stored a s st) stores (stored_fits a s st h f.0) f.1
