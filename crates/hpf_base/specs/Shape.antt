-- Of a promise.
-- Which shapes are valid.
use Rattle.std.specs.Prelude.{◌≡◌, ◌+◌, ◌*◌, ◌≤◌, pos, ◌≤ℤ◌, unsigned_abs, length, All}
use Rattle.hpf_base.specs.declared.limits.TheConstants.{MAX_BOUND, MAX_ELEMENTS}
use Rattle.hpf_base.specs.declared.index.Shape.{Shape}
use Rattle.hpf_base.specs.ElementOrder.{extents_of, product}

-- as many lower bounds as extents, each within its limit, and not too many elements
pub record IsShape (shape : Shape) : Type 0 where
  pub rank : length shape.lower ≡ length shape.extent
  pub lower : All (λ lower. unsigned_abs lower ≤ MAX_BOUND) shape.lower
  pub extent : All (λ extent. (pos 0 ≤ℤ extent) × (extent ≤ℤ pos (2 * MAX_BOUND + 1))) shape.extent
  pub size : product (extents_of shape) ≤ MAX_ELEMENTS
