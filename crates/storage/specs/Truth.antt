-- Of a promise.
-- Conditions that are stored as numbers.
use Rattle.std.specs.Prelude.{ℤ, zero, suc, pos, negsuc, Bool, true, false}

-- a stored condition holds where it isn't 0
abbrev pub is_set : ℤ → Bool
is_set (pos zero) = false
is_set (pos (suc n)) = true
is_set (negsuc n) = true

-- the number that a condition is stored as
abbrev pub number_for : Bool → ℤ
number_for true = pos 1
number_for false = pos 0
