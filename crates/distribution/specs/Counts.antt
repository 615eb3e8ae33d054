-- Of a promise.
-- How many positions of a line are owned (HPF 2.0, DISTRIBUTE).
use Rattle.std.specs.Prelude.{ℕ, ◌-◌, ◌==◌, filter, length}
use Rattle.mappings.specs.declared.mapping.Line.{Line}
use Rattle.mappings.specs.LocalOrder.{owned}
use Rattle.mappings.specs.Owner.{coordinate}
use Rattle.mappings.specs.Positions.{section}

-- how many positions the processor owns
abbrev pub owned_count : Line → ℕ → ℕ
owned_count line node = length (owned line node)

-- how many lesser positions have the same owner
abbrev pub rank : Line → ℕ → ℕ
rank line position = length (filter (λ j. coordinate line j == coordinate line position) (section 1 (position - 1)))
