-- Of a promise.
-- Subscripts that go by equal steps.
use Rattle.std.specs.Prelude.{ℕ, List, map, ℤ, pos, ◌+ℤ◌, ◌*ℤ◌}

-- numbers that go by equal steps: the first one, and a step more for each place
pub record Progression : Type 0 where
  pub first : ℤ
  pub step : ℤ

-- the number at a place, from 0
abbrev pub member : ℕ → Progression → ℤ
member k p = p.first +ℤ pos k *ℤ p.step

-- those of several at one place, as the subscripts of an element
abbrev pub members : ℕ → List Progression → List ℤ
members k ps = map (member k) ps
