use Rattle.std.proofs.Common.{◌≡◌, ◌++◌, drop, length, map}
use Rattle.std.specs.Prelude.{pos}
use Rattle.expression_rules.specs.Dims.{extent}
use Rattle.directive_check.proofs.program_maps.shape_of.Given as goal

abbrev pub invariant-loop-dim : goal.invariant-loop-dim
invariant-loop-dim l =
    (l.lower.items ++ map (λ d. d.lower) (drop l.dim-index l.dims) ≡ map (λ d. d.lower) l.dims)
    × (l.extents.items ++ map (λ d. pos (extent d)) (drop l.dim-index l.dims) ≡ map (λ d. pos (extent d)) l.dims)
    × (length l.lower.items ≡ l.dim-index) × (length l.extents.items ≡ l.dim-index)
