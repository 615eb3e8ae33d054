-- Of the claim.
-- The rules of DISTRIBUTE and REDISTRIBUTE (HPF 2.0, 3.3 and 8.3) and of GEN_BLOCK (approved extensions).
use Rattle.std.specs.Prelude.{ℕ, suc, ◌==◌, ◌*◌, Bool, true, false, ◌&&◌, ◌||◌, not, nat_lt, int_lt, unsigned_abs, List, [], ◌∷◌, ◌++◌, filter, map, length, sum, ℤ, pos, Option, Some, None, option_map, if◌then◌else◌}
use Rattle.std.specs.List.{list_any, flat_map}
use Rattle.hpf_base.specs.ElementOrder.{product}
use Rattle.mappings.specs.declared.limits.TheConstants.{MAX_BLOCK, MAX_CYCLIC}
use Rattle.hpf_base.specs.declared.refusal.Reason.{Reason}
use Rattle.hpf_base.specs.declared.refusal.Reason.TheVariants as reason
use Rattle.syntax_tree.specs.Directive as directive
use Rattle.syntax_tree.specs.Directive.{Distribution}
use Rattle.expression_rules.specs.Dims.{extent}
use Rattle.expression_rules.specs.Symbols.{Name}
use Rattle.expression_rules.specs.declared.dims.Dim.{Dim}
use Rattle.expression_rules.specs.declared.evaluated.Evaluated.{Evaluated}
use Rattle.expression_rules.specs.declared.evaluated.Evaluated.TheVariants as evaluated
use Rattle.declarations.specs.Reasons.{when}
use Rattle.distribution_rules.specs.declared.objects.Object.{Object}
use Rattle.distribution_rules.specs.declared.evaluated_formats.DistributionValues.{DistributionValues}
use Rattle.distribution_rules.specs.declared.evaluated_formats.FormatValue.{FormatValue}
use Rattle.distribution_rules.specs.declared.evaluated_formats.FormatValue.TheVariants.{Undistributed, DefaultBlock, Block, Cyclic, GenBlock}
use Rattle.distribution_rules.specs.declared.evaluated_formats.Processors.{Processors}
use Rattle.distribution_rules.specs.declared.evaluated_formats.Processors.TheVariants.{Extents, Unknown, Missing}
use Rattle.distribution_rules.specs.Dimensions.{passes, is_empty_dim, is_too_wide, extents}
use Rattle.distribution_rules.specs.Setting.{Setting, value_in, object, object_dims, has_kind, is_array_kind, is_mapped_kind, is_arrangement_kind}

-- ---- what a distribution says

-- CYCLIC is CYCLIC(1)
abbrev pub format_value : Setting → directive.Format → FormatValue
format_value s directive.Undistributed = Undistributed
format_value s (directive.Block None) = DefaultBlock
format_value s (directive.Block (Some m)) = Block (value_in s m)
format_value s (directive.Cyclic None) = Cyclic (evaluated.Known (pos 1))
format_value s (directive.Cyclic (Some k)) = Cyclic (value_in s k)
format_value s (directive.GenBlock sizes) = GenBlock (map (value_in s) sizes)

abbrev pub is_distributed : directive.Format → Bool
is_distributed directive.Undistributed = false
is_distributed f = true

-- how many dimensions are distributed
abbrev pub distributed_count : List directive.Format → ℕ
distributed_count fs = length (filter is_distributed fs)

-- without ONTO: the grid, if its rank is the number of the distributed dimensions, or else all nodes in one line
abbrev pub on_grid : List ℕ → ℕ → Processors
on_grid grid count =
    if (count == 0) || (count == length grid) then Extents grid
    else (if count == 1 then Extents (product grid ∷ []) else Missing reason.BadArrangement)

-- the extents of an arrangement, where all are known and none is 0
abbrev pub known_extents : List (Option Dim) → Option (List ℕ) → Processors
known_extents ds None = Unknown
known_extents ds (Some ns) = if list_any is_empty_dim ds then Unknown else Extents ns

-- after ONTO stands an arrangement whose rank is the number of the distributed dimensions
abbrev pub onto_object : Option Object → ℕ → Processors
onto_object o count =
    if has_kind is_arrangement_kind o && (length (object_dims o) == count) then known_extents (object_dims o) (extents (object_dims o))
    else Missing reason.BadDirective

abbrev pub processors_of : Setting → Option Name → ℕ → Processors
processors_of s None count = on_grid s.grid count
processors_of s (Some x) count = onto_object (object s x) count

abbrev pub distribution_values : Setting → Distribution → DistributionValues
distribution_values s d = record {
  formats = map (format_value s) d.formats;
  processors = processors_of s d.onto (distributed_count d.formats);
}

-- ---- what is wrong with it, whatever its distributees are

-- m of BLOCK(m), k of CYCLIC(k) and a size of GEN_BLOCK: constant, at least so much, and no more than a limit
abbrev pub size_reasons : ℕ → ℕ → Evaluated ℤ → List Reason
size_reasons least most evaluated.Invalid = reason.BadConstant ∷ []
size_reasons least most evaluated.Unknown = []
size_reasons least most (evaluated.Known n) = when (int_lt n (pos least)) reason.BadDirective ++ when (int_lt (pos most) n) reason.Limit

abbrev pub format_reasons : FormatValue → List Reason
format_reasons (Block m) = size_reasons 1 MAX_BLOCK m
format_reasons (Cyclic k) = size_reasons 1 MAX_CYCLIC k
format_reasons (GenBlock sizes) = flat_map (size_reasons 0 MAX_BLOCK) sizes
format_reasons f = []

abbrev pub processors_reasons : Processors → List Reason
processors_reasons (Missing why) = why ∷ []
processors_reasons ps = []

abbrev pub distribution_reasons : DistributionValues → List Reason
distribution_reasons v = flat_map format_reasons v.formats ++ processors_reasons v.processors

-- ---- what is wrong with the distribution of an object

-- a distributed dimension: its format, its number from 0, its bounds where they are known, and the dimension of the arrangement on
-- which it lies, with its extent
pub record DistributedDim : Type 0 where
  pub format : FormatValue
  pub dim : ℕ
  pub bounds : Option Dim
  pub grid_dim : ℕ
  pub procs : ℕ

-- the distributed dimensions lie on those of the arrangement in order
abbrev pub distributed_from : ℕ → ℕ → List FormatValue → List (Option Dim) → List ℕ → List DistributedDim
distributed_from dim grid_dim (Undistributed ∷ fs) (b ∷ bs) ps = distributed_from (suc dim) grid_dim fs bs ps
distributed_from dim grid_dim (f ∷ fs) (b ∷ bs) (p ∷ ps) =
    record { format = f; dim = dim; bounds = b; grid_dim = grid_dim; procs = p } ∷ distributed_from (suc dim) (suc grid_dim) fs bs ps
distributed_from dim grid_dim fs bs ps = []

abbrev pub distributed_dims : DistributionValues → List (Option Dim) → List DistributedDim
distributed_dims v bs = on_processors v.processors
  where
    on_processors : Processors → List DistributedDim
    on_processors (Extents ps) = distributed_from 0 0 v.formats bs ps
    on_processors p = []

-- blocks of m positions on so many processors don't take all positions
abbrev pub leaves_some : FormatValue → ℕ → Dim → Bool
leaves_some (Block (evaluated.Known m)) procs d = nat_lt (unsigned_abs m * procs) (extent d)
leaves_some f procs d = false

-- GEN_BLOCK has another number of sizes than there are processors
abbrev pub has_other_count : FormatValue → ℕ → Bool
has_other_count (GenBlock sizes) procs = not (length sizes == procs)
has_other_count f procs = false

-- the blocks of a dimension don't fit the processors
abbrev pub are_unfit : FormatValue → ℕ → Option Dim → Bool
are_unfit f procs b = has_other_count f procs || passes (leaves_some f procs) b

abbrev pub is_unfit : DistributedDim → Bool
is_unfit d = are_unfit d.format d.procs d.bounds

-- the sizes of GEN_BLOCK, where all are known
abbrev pub with_size : Evaluated ℤ → Option (List ℕ) → Option (List ℕ)
with_size (evaluated.Known n) (Some ns) = Some (unsigned_abs n ∷ ns)
with_size v ns = None

abbrev pub known_sizes : List (Evaluated ℤ) → Option (List ℕ)
known_sizes [] = Some []
known_sizes (v ∷ vs) = with_size v (known_sizes vs)

-- their sum is below the extent of the dimension, whatever the processors are
abbrev pub has_small_sum : FormatValue → Option Dim → Bool
has_small_sum (GenBlock sizes) (Some d) = passes (λ n. nat_lt n (extent d)) (option_map sum (known_sizes sizes))
has_small_sum f b = false

-- so is that of one of the dimensions
abbrev pub have_small_sum : List FormatValue → List (Option Dim) → Bool
have_small_sum (f ∷ fs) (b ∷ bs) = has_small_sum f b || have_small_sum fs bs
have_small_sum fs bs = false

-- what is wrong with an object: it is neither an array nor a template, or its rank isn't the number of formats; or it is an array, which
-- is its own template, with too many positions in a dimension; or the blocks of a dimension don't fit, or are too small in all
abbrev pub distributee_reasons : DistributionValues → Option Object → List Reason
distributee_reasons v o =
    if not (has_kind is_mapped_kind o) || not (length v.formats == length (object_dims o)) then reason.BadDirective ∷ []
    else when (has_kind is_array_kind o && list_any is_too_wide (object_dims o)) reason.Limit
    ++ when (list_any is_unfit (distributed_dims v (object_dims o)) || have_small_sum v.formats (object_dims o)) reason.BadDirective

-- what is wrong with a DISTRIBUTE or REDISTRIBUTE
abbrev pub distribute_reasons : Setting → Distribution → List Reason
distribute_reasons s d =
    distribution_reasons (distribution_values s d) ++ flat_map (λ x. distributee_reasons (distribution_values s d) (object s x)) d.names
