-- Of the claim.
-- The mapping that DISTRIBUTE gives its object (HPF 2.0, 3.3).
use Rattle.std.specs.Prelude.{ℕ, ◌==◌, Bool, ◌&&◌, nat_le, unsigned_abs, List, [], ◌∷◌, length, pos, Option, Some, None, option_map, option_and_then, if◌then◌else◌}
use Rattle.std.specs.List.{list_all}
use Rattle.hpf_base.specs.ElementOrder.{product}
use Rattle.mappings.specs.Owner.{default_block}
use Rattle.hpf_base.specs.declared.limits.TheConstants.{MAX_RANK}
use Rattle.mappings.specs.declared.limits.TheConstants.{MAX_BLOCK}
use Rattle.mappings.specs.declared.mapping.AlignDim.TheVariants.{Linear}
use Rattle.mappings.specs.declared.mapping.Form.{Form}
use Rattle.mappings.specs.declared.mapping.Form.TheVariants as form
use Rattle.mappings.specs.declared.mapping.MapDim.{MapDim}
use Rattle.mappings.specs.declared.mapping.Mapping.{Mapping}
use Rattle.expression_rules.specs.Dims.{extent}
use Rattle.expression_rules.specs.declared.dims.Dim.{Dim}
use Rattle.expression_rules.specs.declared.evaluated.Evaluated.TheVariants as evaluated
use Rattle.distribution_rules.specs.declared.evaluated_formats.DistributionValues.{DistributionValues}
use Rattle.distribution_rules.specs.declared.evaluated_formats.FormatValue.{FormatValue}
use Rattle.distribution_rules.specs.declared.evaluated_formats.FormatValue.TheVariants.{DefaultBlock, Block, Cyclic, GenBlock}
use Rattle.distribution_rules.specs.declared.evaluated_formats.Processors.{Processors}
use Rattle.distribution_rules.specs.declared.evaluated_formats.Processors.TheVariants.{Extents}
use Rattle.distribution_rules.specs.Dimensions.{is_too_wide}
use Rattle.distribution_rules.specs.DistributionRules.{DistributedDim, distributed_from, known_sizes}
use Rattle.distribution_rules.specs.Setting.{Setting}

-- what is made of each, where it is made of all
abbrev pub and_more : {B : Type 0} → Option B → Option (List B) → Option (List B)
and_more (Some b) (Some bs) = Some (b ∷ bs)
and_more b bs = None

abbrev pub all_or_none : {A B : Type 0} → (A → Option B) → List A → Option (List B)
all_or_none f [] = Some []
all_or_none f (a ∷ as') = and_more (f a) (all_or_none f as')

-- blocks of these sizes, one a processor, none of them above the limit
abbrev pub gen_block : ℕ → List ℕ → Option Form
gen_block procs sizes = if (length sizes == procs) && list_all (λ n. nat_le n MAX_BLOCK) sizes then Some (form.Gen sizes) else None

-- the format of a dimension of this extent on so many processors
abbrev pub form_of : FormatValue → ℕ → ℕ → Option Form
form_of DefaultBlock extent procs = Some (form.Block (default_block extent procs))
form_of (Block (evaluated.Known m)) extent procs = Some (form.Block (unsigned_abs m))
form_of (Cyclic (evaluated.Known k)) extent procs = Some (form.Cyclic (unsigned_abs k))
form_of (GenBlock sizes) extent procs = option_and_then (gen_block procs) (known_sizes sizes)
form_of f extent procs = None

abbrev pub map_dim_with : DistributedDim → Dim → Form → MapDim
map_dim_with d b f = record {
  line = record { lower = b.lower; extent = extent b; form = f; procs = d.procs };
  grid_dim = d.grid_dim;
  align = Linear d.dim (pos 1) (pos 0);
}

-- a distributed dimension of known bounds that has no more positions than a template may have
abbrev pub map_dim_in : DistributedDim → Dim → Option MapDim
map_dim_in d b = if is_too_wide (Some b) then None else option_map (map_dim_with d b) (form_of d.format (extent b) d.procs)

abbrev pub map_dim : DistributedDim → Option MapDim
map_dim d = option_and_then (map_dim_in d) d.bounds

-- an arrangement of all nodes
abbrev pub has_all_nodes : List ℕ → List ℕ → Bool
has_all_nodes grid ps = nat_le 1 (length ps) && nat_le (length ps) MAX_RANK && (product ps == product grid)

-- onto an arrangement of these extents, where each dimension is known
abbrev pub mapping_onto : List ℕ → List ℕ → Option (List MapDim) → Option Mapping
mapping_onto grid ps ms = if has_all_nodes grid ps then option_map (λ entries. record { grid = ps; dims = entries }) ms else None

abbrev pub distributed_onto : List ℕ → List FormatValue → List (Option Dim) → Processors → Option Mapping
distributed_onto grid fs bs (Extents ps) = mapping_onto grid ps (all_or_none map_dim (distributed_from 0 0 fs bs ps))
distributed_onto grid fs bs p = None

-- a format for each dimension, which are no more than an array may have
abbrev pub are_formats : List FormatValue → List (Option Dim) → Bool
are_formats fs bs = nat_le (length bs) MAX_RANK && (length fs == length bs)

-- the mapping of an object of these dimensions, where all that it needs is known and within the limits
abbrev pub distributed : Setting → DistributionValues → List (Option Dim) → Option Mapping
distributed s v bs = if are_formats v.formats bs then distributed_onto s.grid v.formats bs v.processors else None
