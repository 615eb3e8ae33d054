-- Of a promise.
-- What is evaluated at those iterations alone at which stored conditions are as asked.
use Rattle.std.specs.Prelude.{ℕ, ◌+◌, ◌&&◌, List, [], ◌∷◌, ◌++◌, drop, slice_index_or, ℤ, pos, Bool, true, false, not, Option, Some}
use Rattle.storage.specs.Storage.{Spot}
use Rattle.storage.specs.Truth.{is_set}
use Rattle.nest_syntax.specs.Asked.{Asked}
use Rattle.machine_steps.specs.Instr.{Outcome, Nothing, Tuples}

-- whether it is so
abbrev pub as_asked : Bool → Bool → Bool
as_asked true b = b
as_asked false b = not b

-- conditions are read at the iteration, from the rows from `stored` on
abbrev pub asked_spots : ℕ → List Asked → ℕ → List (Option Spot)
asked_spots stored [] t = []
asked_spots stored (w ∷ ws) t = Some (record { row = stored + w.number; at = t }) ∷ asked_spots stored ws t

-- they are as asked, by the first of the values that were read
abbrev pub are_asked : List Asked → List ℤ → Bool
are_asked [] values = true
are_asked (w ∷ ws) values = as_asked w.value (is_set (slice_index_or values 0 (pos 0))) && are_asked ws (drop 1 values)

-- the values after those of the conditions
abbrev pub after_asked : List Asked → List ℤ → List ℤ
after_asked [] values = values
after_asked (w ∷ ws) values = after_asked ws (drop 1 values)

-- nothing comes of it where they aren't as asked
abbrev pub outcome_where : {F : Type 0} → Bool → Outcome F → Outcome F
outcome_where true o = o
outcome_where false o = Nothing

-- at each of so many iterations the conditions are read before all else, and where they aren't as asked nothing is done
abbrev pub tuples_where : {F : Type 0} → (size : List ℤ → ℕ) → (stored : ℕ) → List Asked → (List ℤ → ℕ → List (Option Spot)) → (List ℤ → ℕ → List ℤ → Outcome F) → Tuples F
tuples_where size stored ws reads outcome = record {
  count = size;
  reads = λ slots t. asked_spots stored ws t ++ reads slots t;
  outcome = λ slots t values. outcome_where (are_asked ws values) (outcome slots t (after_asked ws values));
}
