-- Of a promise.
-- Rows that lie as references take them.
use Rattle.std.specs.Prelude.{◌≡◌, length, All}
use Rattle.mappings.specs.Mapping.{IsAlign}
use Rattle.machine_steps.specs.Layout.{Layout}
use Rattle.courses.specs.References.{Named}
use Rattle.courses.specs.Subscripts.{shape_of_dims}

-- the row with this layout lies as the reference takes it, which has a course for each dimension
pub record LiesAs (layout : Layout) (r : Named) : Type 0 where
  pub shape : layout.shape ≡ shape_of_dims r.dims
  pub rank : length r.courses ≡ length r.dims
  pub align : All (λ e. IsAlign (length r.dims) e.align) layout.mapping.dims
