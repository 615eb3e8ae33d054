-- Results at tuples in order, of which only the first fault is kept.
use Rattle.std.proofs.Common.{◌≡◌, ℕ, suc, ◌<◌, true, List, ℤ, refl, ap, Result, Ok, Err}
use Rattle.std.proofs.lemmas.Bool.{false≢true}
use Rattle.array_meaning.specs.Elementals.{each}
use Rattle.array_meaning.specs.Faults.{Cause, at_tuple}
use Rattle.slot_values.specs.Tested.{has_value}
use Rattle.term_values.specs.declared.stops.Stop.{Stop}
use Rattle.term_values.specs.Stops.{IsStop}
use Rattle.term_values.proofs.Each.{each_more, each_stop}

module _ {A : Type 0} (tuple : ℕ → List ℤ) (f : ℕ → Result A Cause) where
  -- one tuple more
  pub next_has_value : (n : ℕ) → has_value (each tuple f n) ≡ true → has_value (at_tuple (tuple n) (f n)) ≡ true → has_value (each tuple f (suc n)) ≡ true
  next_has_value n before here = by (each tuple f n) (f n) refl refl before here where
    by : (r : Result (List A) Cause) (q : Result A Cause) → each tuple f n ≡ r → f n ≡ q → has_value r ≡ true → has_value (at_tuple (tuple n) q) ≡ true → has_value (each tuple f (suc n)) ≡ true
    by (Ok vs) (Ok v) are is b h = ap has_value (each_more tuple f n vs v are is)
    by (Err c) q are is b h = absurd (false≢true b)
    by (Ok vs) (Err c) are is b h = absurd (false≢true h)

  pub stops_there : (t n : ℕ) (e : Stop) → t < n → has_value (each tuple f t) ≡ true → IsStop (at_tuple (tuple t) (f t)) e → IsStop (each tuple f n) e
  stops_there t n e lt before stop = by (each tuple f t) refl before where
    by : (r : Result (List A) Cause) → each tuple f t ≡ r → has_value r ≡ true → IsStop (each tuple f n) e
    by (Ok vs) are b = each_stop tuple f t n vs e lt are stop
    by (Err c) are b = absurd (false≢true b)
