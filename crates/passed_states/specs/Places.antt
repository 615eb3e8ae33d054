-- Of a promise.
-- Where entries of a trail are passed.
use Rattle.std.specs.Prelude.{◌≡◌, ℕ, ◌<◌, List, [], ◌∷◌, take}
use Rattle.array_meaning.specs.Faults.{Fault}
use Rattle.statement_trail.specs.Trail.{Trail, TrailEntry}
use Rattle.machine_steps.specs.Machine.{Machine, steps}
use Rattle.node_code.specs.Instructions.{Instruction, NewMapping}
use Rattle.code_meaning.specs.Instructions.{ArrayTable, meaning_of}
use Rattle.lowered_expressions.specs.Passed.{IsTrail, Passed, IsTrailEntry, passed, passed_now}

-- over code whose first k steps pass these entries: after some of these steps the machine has passed those before entry i, and is before an
-- instruction that is this one
abbrev pub IsPassed : ArrayTable → (ℕ → List NewMapping) → ℕ → Machine Instruction Fault → Trail → ℕ → TrailEntry → Type 0
IsPassed table moves k m entries i e = (j : ℕ) × (j < k) × IsTrail moves (passed table j m) (take i entries)
    × ((p : Passed) × (passed_now (steps (meaning_of table) j m) ≡ p ∷ []) × IsTrailEntry moves p e)
