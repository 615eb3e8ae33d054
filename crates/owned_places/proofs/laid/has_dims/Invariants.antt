use Rattle.std.proofs.Common.{◌≡◌, map, pos, take}
use Rattle.expression_rules.specs.Dims.{extent}
use Rattle.owned_places.proofs.laid.has_dims.Given as goal

-- the dimensions so far have these bounds
abbrev pub invariant-loop-k : goal.invariant-loop-k
invariant-loop-k l =
    (take l.k l.shape.lower ≡ map (λ d. d.lower) (take l.k l.dims)) × (take l.k l.shape.extent ≡ map (λ d. pos (extent d)) (take l.k l.dims))
