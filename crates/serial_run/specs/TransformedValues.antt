-- Of private clauses.
-- What a circular shift, a transpose or a prefix sum gives its target, before anything is stored.
use Rattle.std.specs.Prelude.{ℕ, ◌+◌, ◌*◌, ◌/◌, ◌%◌, List, map, slice_index_or, take, ℤ, pos, Result, Ok, if◌then◌else◌}
use Rattle.std.specs.List.{fold, range_with_len}
use Rattle.hpf_base.specs.ElementOrder.{product}
use Rattle.op_tables.specs.declared.join.Join.TheVariants.{Sum}
use Rattle.op_tables.specs.Joins.{join, unit}
use Rattle.array_meaning.specs.declared.faults.FaultKind.TheVariants.{Shape}
use Rattle.array_meaning.specs.Faults.{Cause, ◌>>=◌, fails}
use Rattle.array_meaning.specs.State.{State, array}
use Rattle.array_meaning.specs.Statements.{WholeArray, Transformation}
use Rattle.array_meaning.specs.Transformations.{extents_of, has_shape, shift_of, transformed_value}

-- the elements at the places of so many numbers from one on; 0 where there is no such place
abbrev pub elements_at : List ℤ → (ℕ → ℕ) → ℕ → ℕ → List ℤ
elements_at xs place first count = map (λ t. slice_index_or xs (place t) (pos 0)) (range_with_len first count)

-- the place in the source where each column of n is turned by so many places
abbrev pub turned_place : ℕ → ℕ → ℕ → ℕ
turned_place n turn t = (t % n + turn) % n + n * (t / n)

-- the sums of the elements up to each of so many places, from the first on
abbrev pub sums_of : List ℤ → ℕ → List ℤ
sums_of xs count = map (λ t. fold (join Sum) (unit Sum) (take (t + 1) xs)) (range_with_len 0 count)

-- the values at all places of a target with these extents
abbrev pub all_values : Transformation → ℤ → List ℕ → List ℤ → List ℤ
all_values how k ns xs = map (λ t. transformed_value how k ns xs t) (range_with_len 0 (product ns))

-- all values of the target in order, or the fault
abbrev pub transformed_values : WholeArray → WholeArray → Transformation → State → Result (List ℤ) Cause
transformed_values x y how s =
    shift_of s how >>= (λ k.
    if has_shape x y how then Ok (all_values how k (extents_of x) (array s y.array).elements) else fails Shape)
