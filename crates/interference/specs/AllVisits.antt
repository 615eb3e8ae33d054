-- Of private clauses.
-- How all objects were visited by iterations, one after the other.
use Rattle.std.specs.Prelude.{◌≡◌, ℕ, zero, suc, List, [], ◌++◌, fold}
use Rattle.resolved_program.specs.declared.statements.Nest.{Nest as HeldNest}
use Rattle.array_meaning.specs.Statements.{Block}
use Rattle.array_meaning.specs.State.{State}
use Rattle.array_meaning.specs.Touches.{Touch, assigned_in}
use Rattle.nest_clash.specs.Visits.{Visit, Untouched}
use Rattle.interference.specs.declared.indices.IterationSpace.{IterationSpace}
use Rattle.interference.specs.IterationSpaces.{touches_at}
use Rattle.visited_objects.specs.Visits.{touched}
use Rattle.interference.specs.Walks.{Walk}

-- after so many iterations, which touch these
abbrev pub visits_after : (ℕ → List Touch) → ℕ → ℕ → ℕ → Visit
visits_after touches zero = λ x y. Untouched
visits_after touches (suc i) = fold (touched i) (visits_after touches i) (touches i)

-- the walk of an iteration, as it is outside all inner loops
abbrev pub walk_with : HeldNest → IterationSpace → Block → (ℕ → ℕ → Visit) → Walk
walk_with nest space body visits = record { iteration = 0; assigned = assigned_in body; inner = []; own = nest.new.items ++ nest.reduction.items ++ space.indices.items; visits = visits }

-- before an iteration of the nest, whatever iteration it was in
abbrev pub IsBefore : HeldNest → IterationSpace → Block → State → ℕ → Walk → Type 0
IsBefore nest space body s i w = record w { iteration = 0 } ≡ walk_with nest space body (visits_after (touches_at nest space body s) i)
