-- Of private clauses.
-- No public clause cites this file.
-- What the tuples that a node computes come to, one after the other.
use Rattle.std.specs.Prelude.{ℕ, ℤ, List, [], ◌∷◌, Option}
use Rattle.storage.specs.Storage.{Storage}
use Rattle.op_tables.specs.declared.join.Join.{Join}
use Rattle.op_tables.specs.Joins.{join}
use Rattle.array_meaning.specs.Faults.{Fault}
use Rattle.machine_steps.specs.Machine.{Kept, earlier, kept_of}
use Rattle.machine_steps.specs.Node.{join_options, outcome_value}
use Rattle.part_steps.specs.After.{After, applied, outcome_of}

module _ {S : Type 0} (step : ℕ → S → S) where
  -- a state after each tuple of a list, the first tuple first
  abbrev pub over : List ℕ → S → S
  over [] s = s
  over (t ∷ ts) s = over ts (step t s)

module _ (b : After) where
  -- pieces after a tuple, the first fault, and the values joined
  abbrev pub store_of : ℕ → Storage → Storage
  store_of t pieces = applied b t (outcome_of b t) pieces

  abbrev pub keep_of : ℕ → ℕ → Option (Kept Fault) → Option (Kept Fault)
  keep_of number t so_far = earlier so_far (kept_of (outcome_of b t) t number)

  abbrev pub join_of : Join → ℕ → Option ℤ → Option ℤ
  join_of op t so_far = join_options (join op) so_far (outcome_value (outcome_of b t))
