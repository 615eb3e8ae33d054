-- Of a promise.
-- Which mappings serve a program that runs on so many nodes.
use Rattle.std.specs.Prelude.{◌≡◌, ℕ, ◌<◌, List, length, All, AllPairs, Some, slice_get}
use Rattle.hpf_base.specs.declared.index.Shape.{Shape}
use Rattle.mappings.specs.declared.mapping.Mapping.{Mapping}
use Rattle.hpf_base.specs.ElementOrder.{elements, product}
use Rattle.hpf_base.specs.Shape.{IsShape}
use Rattle.mappings.specs.Mapping.{IsMapping, MapsInside}
use Rattle.array_maps.specs.declared.maps.ArrayMap.{ArrayMap}
use Rattle.array_maps.specs.declared.maps.NewMap.{NewMap}
use Rattle.array_maps.specs.declared.maps.Maps.{Maps}

-- a mapping of an array of this shape onto so many nodes: every element lies inside the template (HPF 2.0, ALIGN)
pub record IsMapOf (nodes : ℕ) (shape : Shape) (mapping : Mapping) : Type 0 where
  pub valid : IsMapping (length shape.lower) mapping
  pub onto : product mapping.grid ≡ nodes
  pub inside : All (MapsInside mapping) (elements shape)

-- an array that starts with such a mapping
pub record IsArrayMap (nodes : ℕ) (array : ArrayMap) : Type 0 where
  pub shape : IsShape array.shape
  pub start : IsMapOf nodes array.shape array.start

-- such a mapping of one of these arrays
pub record IsNewMap (nodes : ℕ) (arrays : List ArrayMap) (new : NewMap) : Type 0 where
  pub array : new.array.0 < length arrays
  pub map : (array : ArrayMap) → slice_get arrays new.array.0 ≡ Some array → IsMapOf nodes array.shape new.map

-- a redistribution names each array that moves once, in the order of the declarations
pub record AreNewMaps (nodes : ℕ) (arrays : List ArrayMap) (news : List NewMap) : Type 0 where
  pub each : All (IsNewMap nodes arrays) news
  pub ascending : AllPairs (λ x y. x.array.0 < y.array.0) news

-- the mappings of a program on so many nodes
pub record AreMaps (nodes : ℕ) (maps : Maps) : Type 0 where
  pub arrays : All (IsArrayMap nodes) maps.arrays
  pub moves : All (λ r. AreNewMaps nodes maps.arrays r.maps) maps.moves
