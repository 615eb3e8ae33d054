-- Of the claim.
-- The dimensions of an array (Fortran 95, 5.1.2.4.1).
use Rattle.std.specs.Prelude.{ℕ, Bool, ◌==◌, ◌*◌, ◌≤◌, All, unsigned_abs, List, [], ◌∷◌, ℤ, pos, negsuc, ◌+ℤ◌, ◌-ℤ◌}
use Rattle.hpf_base.specs.declared.limits.TheConstants.{MAX_BOUND, MAX_ELEMENTS}
use Rattle.expression_rules.specs.declared.dims.Dim.{Dim}

abbrev pub at_least_none : ℤ → ℕ
at_least_none (pos n) = n
at_least_none (negsuc n) = 0

-- how many subscripts lie in the bounds
abbrev pub extent : Dim → ℕ
extent d = at_least_none (d.upper -ℤ d.lower +ℤ pos 1)

abbrev pub is_empty : Dim → Bool
is_empty d = extent d == 0

-- how many elements an array of these dimensions has
abbrev pub elements : List Dim → ℕ
elements [] = 1
elements (d ∷ ds) = extent d * elements ds

-- the bounds are within the limits
pub record IsDim (d : Dim) : Type 0 where
  pub lower : unsigned_abs d.lower ≤ MAX_BOUND
  pub upper : unsigned_abs d.upper ≤ MAX_BOUND

-- dimensions of an array within the limits
pub record AreDims (ds : List Dim) : Type 0 where
  pub each : All IsDim ds
  pub size : elements ds ≤ MAX_ELEMENTS
