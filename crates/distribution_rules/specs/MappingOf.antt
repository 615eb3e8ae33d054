-- Of a promise.
-- What a distribution that breaks no rule gives its object (HPF 2.0, 3.3).
use Rattle.std.specs.Prelude.{◌≡◌, ℕ, pos, List, [], All, length, slice_get, Option, Some, IfSome}
use Rattle.hpf_base.specs.ElementOrder.{product}
use Rattle.hpf_base.specs.Grid.{IsGrid}
use Rattle.mappings.specs.Mapping.{IsMapping}
use Rattle.mappings.specs.declared.mapping.AlignDim.TheVariants.{Linear}
use Rattle.mappings.specs.declared.mapping.MapDim.{MapDim}
use Rattle.mappings.specs.declared.mapping.Mapping.{Mapping}
use Rattle.expression_rules.specs.Dims.{IsDim, extent}
use Rattle.expression_rules.specs.declared.dims.Dim.{Dim}
use Rattle.distribution_rules.specs.declared.evaluated_formats.DistributionValues.{DistributionValues}
use Rattle.distribution_rules.specs.declared.objects.Object.{Object}
use Rattle.distribution_rules.specs.Distributed.{distributed}
use Rattle.distribution_rules.specs.DistributionRules.{distribution_reasons, distributee_reasons}
use Rattle.distribution_rules.specs.Setting.{Setting}

-- an entry lies along a dimension of the object, and its line has the positions of that dimension
pub record IsLineOf (ds : List (Option Dim)) (entry : MapDim) : Type 0 where
  pub dim : ℕ
  pub bounds : Dim
  pub align : entry.align ≡ Linear dim (pos 1) (pos 0)
  pub is : slice_get ds dim ≡ Some (Some bounds)
  pub lower : entry.line.lower ≡ bounds.lower
  pub positions : entry.line.extent ≡ extent bounds

-- a mapping of an object of these dimensions onto all nodes of a grid, where each line has the positions of a dimension
pub record IsMappingOf (grid : List ℕ) (ds : List (Option Dim)) (m : Mapping) : Type 0 where
  pub valid : IsMapping (length ds) m
  pub onto : product m.grid ≡ product grid
  pub lines : All (IsLineOf ds) m.dims

-- where neither a distribution nor its object breaks a rule, and the bounds of the object are within the limits, the mapping that the object
-- is given is valid
abbrev pub GivesMapping : Setting → DistributionValues → Object → Mapping → Type 0
GivesMapping s v o m =
    IsGrid s.grid → All (λ d. IfSome d IsDim) o.dims → distribution_reasons v ≡ [] → distributee_reasons v (Some o) ≡ [] →
    distributed s v o.dims ≡ Some m → IsMappingOf s.grid o.dims m
