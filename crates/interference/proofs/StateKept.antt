-- The state after an iteration.
use Rattle.std.proofs.Common.{◌≡◌, ℕ, List, ap, ◌∙◌, ℤ, map}
use Rattle.array_meaning.specs.State.{State, scalar}
use Rattle.array_meaning.specs.Iterations.{with_indices}
use Rattle.interference.specs.declared.indices.IterationSpace.{IterationSpace}
use Rattle.interference.specs.IterationSpaces.{at_number}
use Rattle.interference.proofs.SetBack.{set_back}

-- what was set for it, and then set back
pub state_kept : (s s' s'' s''' : State) (space : IterationSpace) (i : ℕ) (values : List ℤ) → values ≡ map (scalar s) space.indices.items → s' ≡ at_number space s i → s'' ≡ s' →
    s''' ≡ with_indices space.indices.items values s'' → s''' ≡ s
state_kept s s' s'' s''' space i values kept at same back =
    back
    ∙ ap (λ vs. with_indices space.indices.items vs s'') kept
    ∙ ap (with_indices space.indices.items (map (scalar s) space.indices.items)) (same ∙ at)
    ∙ set_back space.indices.items _ s
