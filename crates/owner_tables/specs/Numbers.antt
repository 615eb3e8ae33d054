-- Of private clauses.
-- The least owners of elements.
use Rattle.std.specs.Prelude.{ℕ}
use Rattle.machine_steps.specs.Layout.{Layout, first, owned_by}

-- of so many nodes the owner with the least number of the element at a position
abbrev pub least_at : ℕ → Layout → ℕ → ℕ
least_at nodes layout at = first (λ node. owned_by layout node at) 0 nodes
