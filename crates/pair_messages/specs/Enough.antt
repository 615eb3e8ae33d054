-- Of private clauses.
-- No public clause cites this file.
-- Lists of places, one an axis, that are enough for what a reference names: on an axis along which none of its subscripts moves one place does as well as all.
use Rattle.std.specs.Prelude.{◌≡◌, ℕ, ◌+◌, ◌<◌, ◌==◌, ◌⊎◌, ⊤, Bool, true, false, List, [], ◌∷◌, filter, Option, Some, None}
use Rattle.std.specs.List.{list_any, range_with_len}
use Rattle.hpf_base.specs.ElementOrder.{product}
use Rattle.axis_products.specs.Products.{places_at}
use Rattle.axis_products.specs.Tests.{Test, holds}
use Rattle.courses.specs.Courses.{Course, Fixed, Moving}

-- a subscript moves along the axis
abbrev pub moves_along : ℕ → Course → Bool
moves_along axis (Fixed i) = false
moves_along axis (Moving a first step) = a == axis

abbrev pub moves_on : List Course → ℕ → Bool
moves_on cs axis = list_any (moves_along axis) cs

-- one of the places below extent that pass; none where none does
abbrev pub IsOne : (ℕ → Bool) → ℕ → List ℕ → Type 0
IsOne passes extent places =
    ((places ≡ []) × ((x : ℕ) → x < extent → passes x ≡ false)) ⊎ ((x : ℕ) × (places ≡ x ∷ []) × (x < extent) × (passes x ≡ true))

-- all of them where they are asked for, and else one
abbrev pub IsEnough : Bool → (ℕ → Bool) → ℕ → List ℕ → Type 0
IsEnough true passes extent places = places ≡ filter passes (range_with_len 0 extent)
IsEnough false passes extent places = IsOne passes extent places

-- of each axis, where the first that is left has this number
abbrev pub AreEnoughFrom : (ℕ → Bool) → (ℕ → ℕ → Bool) → ℕ → List ℕ → List (List ℕ) → Type 0
AreEnoughFrom asked test axis [] [] = ⊤
AreEnoughFrom asked test axis [] (ps ∷ pss) = ⊥
AreEnoughFrom asked test axis (extent ∷ extents) [] = ⊥
AreEnoughFrom asked test axis (extent ∷ extents) (ps ∷ pss) = IsEnough (asked axis) (test axis) extent ps × AreEnoughFrom asked test (axis + 1) extents pss

-- None where no tuple of the space passes
abbrev pub AreEnough : (ℕ → Bool) → Test → (extents : List ℕ) → Option (List (List ℕ)) → Type 0
AreEnough asked c extents None = (t : ℕ) → t < product extents → holds c (places_at extents t) ≡ false
AreEnough asked c extents (Some lists) = (c.always ≡ true) × AreEnoughFrom asked c.at 0 extents lists
