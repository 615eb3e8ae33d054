-- Of private clauses.
-- The space of an array expression, by what is known of its sections.
use Rattle.std.specs.Prelude.{ℕ, nat_le, List, [], ◌∷◌, Bool, ◌&&◌, ◌||◌, ◌==◌, Option, Some, None, if◌then◌else◌, Result, Ok}
use Rattle.array_meaning.specs.declared.limits.TheConstants.{MAX_TUPLES}
use Rattle.hpf_base.specs.ElementOrder.{product}
use Rattle.array_meaning.specs.declared.faults.FaultKind.TheVariants.{Shape, SpaceLimit}
use Rattle.array_meaning.specs.declared.sections.Selection.{Selection}
use Rattle.array_meaning.specs.Faults.{Cause, fails}
use Rattle.array_meaning.specs.Sections.{extents}

-- the extents of the first section, if there is one
abbrev pub first_shape : List (List Selection) → Option (List ℕ)
first_shape [] = None
first_shape (ds ∷ rest) = Some (extents ds)

-- an empty space is in the limits always
abbrev pub is_space : List ℕ → Bool → Bool
is_space ns in_limits = product ns == 0 || (nat_le (product ns) MAX_TUPLES && in_limits)

-- how many tuples a space has, where it is known whether all sections have its extents and are in the limits
abbrev pub sized : List ℕ → Bool → Bool → Result ℕ Cause
sized ns conformable in_limits =
    if conformable then (if is_space ns in_limits then Ok (product ns) else fails SpaceLimit) else fails Shape
