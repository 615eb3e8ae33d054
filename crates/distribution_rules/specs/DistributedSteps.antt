-- Of private clauses.
-- What private contracts see of distributed dimensions, one after the other. No public clause cites this file.
use Rattle.std.specs.Prelude.{ℕ, ◌+◌, Bool, false, List, [], ◌∷◌, ◌++◌, sum, Option, Some, None, option_map, Vec}
use Rattle.std.specs.declared.alloc.Global.{Global}
use Rattle.mappings.specs.declared.mapping.MapDim.{MapDim}
use Rattle.expression_rules.specs.declared.dims.Dim.{Dim}
use Rattle.distribution_rules.specs.declared.evaluated_formats.FormatValue.{FormatValue}
use Rattle.distribution_rules.specs.declared.evaluated_formats.FormatValue.TheVariants.{Undistributed}
use Rattle.distribution_rules.specs.DistributionRules.{DistributedDim, are_unfit}

-- the extent of the next dimension of an arrangement, where a format distributes
abbrev pub procs_for : FormatValue → List ℕ → Option ℕ
procs_for Undistributed ps = None
procs_for f [] = None
procs_for f (p ∷ ps) = Some p

-- how many dimensions of the arrangement that takes
abbrev pub used : Option ℕ → ℕ
used None = 0
used (Some p) = 1

-- a distributed dimension, if it is one
abbrev pub distributed_dim : FormatValue → ℕ → Option Dim → ℕ → ℕ → DistributedDim
distributed_dim f dim b grid_dim p = record { format = f; dim = dim; bounds = b; grid_dim = grid_dim; procs = p }

abbrev pub distributed_at : FormatValue → ℕ → Option Dim → ℕ → Option ℕ → List DistributedDim
distributed_at f dim b grid_dim None = []
distributed_at f dim b grid_dim (Some p) = distributed_dim f dim b grid_dim p ∷ []

abbrev pub unfit_at : FormatValue → Option Dim → Option ℕ → Bool
unfit_at f b None = false
unfit_at f b (Some p) = are_unfit f p b

-- sizes, and more after them, where all are known
abbrev pub and_sizes : List ℕ → Option (List ℕ) → Option (List ℕ)
and_sizes ns ms = option_map (λ more. ns ++ more) ms

-- sizes that a vector may hold
abbrev pub size_list : Option (Vec ℕ Global) → Option (List ℕ)
size_list ns = option_map (λ v. v.items) ns

-- how many positions blocks take, after so many, where all sizes are known
abbrev pub and_taken : ℕ → Option (List ℕ) → Option ℕ
and_taken n ms = option_map (λ more. n + sum more) ms

-- entries of a mapping, and more after them, where all are known
abbrev pub and_entries : Option (List MapDim) → Option (List MapDim) → Option (List MapDim)
and_entries (Some ms) (Some ns) = Some (ms ++ ns)
and_entries ms ns = None

-- entries that a vector may hold
abbrev pub entry_list : Option (Vec MapDim Global) → Option (List MapDim)
entry_list ms = option_map (λ v. v.items) ms

-- the entry of a dimension that lies on one of the arrangement, and none of one that doesn't
abbrev pub entry_if : Option ℕ → Option MapDim → Option (List MapDim)
entry_if None m = Some []
entry_if (Some p) m = option_map (λ e. e ∷ []) m
