-- Of a promise.
-- The rounds down of a tree, by the rounds up.
use Rattle.std.specs.Prelude.{ℕ, ◌-◌, ◌*◌}

-- the rounds down are the rounds up backwards
abbrev pub up_round : (levels round : ℕ) → ℕ
up_round levels round = 2 * levels - 1 - round
