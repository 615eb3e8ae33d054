-- Arrays with valid mappings lie on the nodes.
use Rattle.std.proofs.Common.{ℕ}
use Rattle.hpf_base.specs.declared.index.Shape.{Shape}
use Rattle.mappings.specs.declared.mapping.Mapping.{Mapping}
use Rattle.hpf_base.specs.Shape.{IsShape}
use Rattle.array_maps.specs.Maps.{IsMapOf}
use Rattle.owner_tables.specs.Layouts.{IsLaid}

pub map-laid : (nodes : ℕ) (shape : Shape) (mapping : Mapping) → IsShape shape → IsMapOf nodes shape mapping
    → IsLaid nodes (record { shape = shape; mapping = mapping })
map-laid nodes shape mapping ok h = record { shape = ok; mapping = h.valid; inside = h.inside; grid = h.onto }
