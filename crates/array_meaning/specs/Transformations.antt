-- Of the claim.
-- Circular shifts, transposes and prefix sums of whole arrays (Fortran 95, 13.14.26 and 13.14.111; HPF 2.0, 7.4). Elements go by their places in array
-- element order, whatever the bounds of the arrays are.
use Rattle.std.specs.Prelude.{ℕ, ◌+◌, ◌*◌, ◌/◌, ◌%◌, bytes_eq, unsigned_abs, List, [], ◌∷◌, map, reverse, slice_index_or, take, ℤ, pos, ◌+ℤ◌, Bool, Option, Some, Result, Ok, if◌then◌else◌}
use Rattle.std.specs.Int.{int_rem_euclid}
use Rattle.std.specs.List.{fold, range_with_len}
use Rattle.name_table.specs.Join.TheVariants.{Sum}
use Rattle.name_table.specs.Joins.{join, unit}
use Rattle.name_table.specs.Dims.{extent}
use Rattle.name_table.specs.ElementOrder.{product}
use Rattle.array_meaning.specs.declared.faults.FaultKind.TheVariants.{Shape}
use Rattle.array_meaning.specs.declared.sections.Store.{Store}
use Rattle.array_meaning.specs.Expressions.{value}
use Rattle.array_meaning.specs.Faults.{Cause, ◌>>=◌, fails}
use Rattle.array_meaning.specs.State.{State, array, store_all}
use Rattle.array_meaning.specs.Statements.{WholeArray, Transformation, CircularShift, Transposition, PrefixSum}

abbrev pub extents_of : WholeArray → List ℕ
extents_of w = map extent w.dims

-- ---- places

-- the place in the source of what comes to a place of a target of these extents, by a shift of so many places: in the first dimension, of n, the element
-- at i is the source's at 1 + MODULO(i + k - 1, n)
abbrev pub shifted_place : ℤ → List ℕ → ℕ → ℕ
shifted_place k [] t = t
shifted_place k (n ∷ ns) t = unsigned_abs (int_rem_euclid (pos (t % n) +ℤ k) (pos n)) + n * (t / n)

-- and by a transposition, for a target of m by n
abbrev pub transposed_place : List ℕ → ℕ → ℕ
transposed_place (m ∷ n ∷ []) t = t / m + n * (t % m)
transposed_place ns t = t

-- ---- values

-- the value at a place of a target of these extents, by the values of the source: a prefix sum is that of the values up to the place, in 64 bits
abbrev pub transformed_value : Transformation → ℤ → List ℕ → List ℤ → ℕ → ℤ
transformed_value (CircularShift by) k ns values t = slice_index_or values (shifted_place k ns t) (pos 0)
transformed_value Transposition k ns values t = slice_index_or values (transposed_place ns t) (pos 0)
transformed_value PrefixSum k ns values t = fold (join Sum) (unit Sum) (take (t + 1) values)

-- ---- the statement

-- the number of places, which is evaluated once
abbrev pub shift_of : State → Transformation → Result ℤ Cause
shift_of s (CircularShift by) = value [] s by
shift_of s Transposition = Ok (pos 0)
shift_of s PrefixSum = Ok (pos 0)

-- the target has the extents of the source, for a transposition in reverse order
abbrev pub has_shape : WholeArray → WholeArray → Transformation → Bool
has_shape x y (CircularShift by) = bytes_eq (extents_of y) (extents_of x)
has_shape x y Transposition = bytes_eq (reverse (extents_of y)) (extents_of x)
has_shape x y PrefixSum = bytes_eq (extents_of y) (extents_of x)

-- what each place of the target gets
abbrev pub transformed : WholeArray → WholeArray → Transformation → ℤ → State → List (Option Store)
transformed x y how k s =
    map (λ t. Some record { place = t; value = transformed_value how k (extents_of x) (array s y.array).elements t })
    (range_with_len 0 (product (extents_of x)))

-- the number comes before the shapes, and all values are taken before any is stored
abbrev pub transform : WholeArray → WholeArray → Transformation → State → Result State Cause
transform x y how s =
    shift_of s how >>= (λ k. if has_shape x y how then Ok (store_all s x.array (transformed x y how k s)) else fails Shape)
