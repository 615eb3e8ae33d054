-- The values of an array expression at the first tuples of a space.
use Rattle.std.proofs.Common.{◌≡◌, ℕ, suc, ◌<◌, List, [], ◌∷◌, ◌++◌, ℤ, Ok}
use Rattle.array_meaning.specs.Elementals.{Elemental, value_at, values_over}
use Rattle.array_meaning.specs.Faults.{at_tuple}
use Rattle.array_meaning.specs.Sections.{positions}
use Rattle.array_meaning.specs.State.{State}
use Rattle.term_values.specs.declared.stops.Stop.{Stop}
use Rattle.term_values.specs.Stops.{IsStop}
use Rattle.term_values.proofs.Each.{each_more, each_stop}

module _ (s : State) (ns : List ℕ) (x : Elemental) where
  pub one_value_more : (t : ℕ) (vs : List ℤ) (v : ℤ) → values_over s ns x t ≡ Ok vs → value_at s (positions ns t) x ≡ Ok v → values_over s ns x (suc t) ≡ Ok (vs ++ v ∷ [])
  one_value_more t vs v before here = each_more (positions ns) (λ t. value_at s (positions ns t) x) t vs v before here

  pub value_stop : (t n : ℕ) (vs : List ℤ) (e : Stop) → t < n → values_over s ns x t ≡ Ok vs → IsStop (at_tuple (positions ns t) (value_at s (positions ns t) x)) e →
      IsStop (values_over s ns x n) e
  value_stop t n vs e lt before here = each_stop (positions ns) (λ t. value_at s (positions ns t) x) t n vs e lt before here
