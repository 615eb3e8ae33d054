-- Of private clauses.
-- No public clause cites this file.
-- Numbers that end at the greatest of 64 bits.
use Rattle.std.specs.Prelude.{ℕ, ◌-◌, ◌^◌, min}

abbrev pub saturated : ℕ → ℕ
saturated n = min n (2 ^ 64 - 1)
