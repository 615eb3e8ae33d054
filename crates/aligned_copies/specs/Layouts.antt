-- Of a promise.
-- Layouts that are valid for a number of nodes.
use Rattle.std.specs.Prelude.{◌≡◌, ℕ, length, All}
use Rattle.hpf_base.specs.ElementOrder.{elements, product}
use Rattle.hpf_base.specs.Shape.{IsShape}
use Rattle.mappings.specs.Mapping.{IsMapping, MapsInside}
use Rattle.machine_steps.specs.Layout.{Layout}

-- every element lies inside the template, whose grid has so many nodes
pub record IsLaid (nodes : ℕ) (layout : Layout) : Type 0 where
  pub shape : IsShape layout.shape
  pub mapping : IsMapping (length layout.shape.lower) layout.mapping
  pub inside : All (MapsInside layout.mapping) (elements layout.shape)
  pub grid : product layout.mapping.grid ≡ nodes
