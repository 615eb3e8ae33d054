use Rattle.std.proofs.Common.{◌≡◌, ◌++◌, drop, map}
use Rattle.syntax_tree.specs.Directive.{bound}
use Rattle.distribution_rules.specs.Dimensions.{dim_of}
use Rattle.distribution_rules.proofs.dimensions.dims_of_bounds.Given as goal

-- the dimensions so far, and those of the rest after them, are all
abbrev pub invariant-loop-dimension : goal.invariant-loop-dimension
invariant-loop-dimension l =
    l.dims.items ++ map (dim_of l.grid l.table) (map bound (drop l.dimension-index l.bounds)) ≡ map (dim_of l.grid l.table) (map bound l.bounds)
