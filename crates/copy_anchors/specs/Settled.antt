-- Of a promise.
-- The subscripts by which a copy is aligned with an array, where they are good.
use Rattle.std.specs.Prelude.{ℕ, List, map, ℤ, ◌&&◌, ◌-ℤ◌, ◌+ℤ◌, ◌*ℤ◌, pos, nat_le, Option, Some, None, if◌then◌else◌}
use Rattle.hpf_base.specs.declared.index.Shape.{Shape}
use Rattle.mappings.specs.declared.mapping.AlignDim.{AlignDim}
use Rattle.mappings.specs.declared.mapping.AlignDim.TheVariants.{Linear, At}
use Rattle.aligned_copies.specs.Beside.{are_inside, is_good, is_in, is_inside, settled}

-- in an array of this shape, over a space of these extents
abbrev pub good_subscripts : Shape → List ℕ → List AlignDim → Option (List AlignDim)
good_subscripts shape ns xs = if is_good shape ns xs then Some (map (settled ns) xs) else None

-- where all are in bounds
abbrev pub inside_subscripts : List ℕ → List ℤ → List ℤ → List AlignDim → Option (List AlignDim)
inside_subscripts ns lower extent xs = if are_inside ns lower extent xs then Some (map (settled ns) xs) else None

-- of one dimension
abbrev pub inside_subscript : List ℕ → ℤ → ℤ → AlignDim → Option AlignDim
inside_subscript ns lower extent x = if is_inside ns lower extent x then Some (settled ns x) else None

-- of one that is the same everywhere
abbrev pub inside_at : ℤ → ℤ → ℤ → Option AlignDim
inside_at lower extent first = if is_in lower extent first then Some (At first) else None

-- of one that moves along an axis with n positions, by its first one and its step
abbrev pub inside_along : ℕ → ℕ → ℤ → ℤ → ℤ → ℤ → Option AlignDim
inside_along axis n lower extent first step =
    if is_in lower extent first && is_in lower extent ((step *ℤ pos n) +ℤ (first -ℤ step))
    then Some (if nat_le n 1 then At first else Linear axis step (first -ℤ step)) else None
