-- Of the claim.
-- The entry of a nest of INDEPENDENT loops (HPF 2.0, 5.1): its limits, and whether two of its iterations interfere.
use Rattle.std.specs.Prelude.{ℕ, ◌%◌, ◌/◌, List, [], ◌∷◌, ℤ, pos, ◌+ℤ◌, ◌==◌, if◌then◌else◌, Option, Some, None, Result, Ok, Err}
use Rattle.name_table.specs.Dim.{Dim}
use Rattle.name_table.specs.Dims.{extent}
use Rattle.array_meaning.specs.Statements.{Nest, Block, Mark, Unmarked, Outermost}
use Rattle.array_meaning.specs.declared.faults.FaultKind.TheVariants.{SpaceLimit, Interfere}
use Rattle.array_meaning.specs.Faults.{Object, Between, Cause, fails}
use Rattle.array_meaning.specs.State.{State, array}
use Rattle.array_meaning.specs.declared.sections.Sequence.{Sequence}
use Rattle.array_meaning.specs.Forall.{indices_at}
use Rattle.array_meaning.specs.Iterations.{nest_axes, iteration_count}
use Rattle.array_meaning.specs.Touches.{iteration_touches}
use Rattle.array_meaning.specs.Clashes.{Clash, first_clash}
use Rattle.array_meaning.specs.NestLimits.{is_nest_in_limits}

-- the subscripts of the element at a place
abbrev pub subscripts_of_place : List Dim → ℕ → List ℤ
subscripts_of_place [] k = []
subscripts_of_place (d ∷ ds) k = (d.lower +ℤ pos (k % extent d)) ∷ subscripts_of_place ds (k / extent d)

-- a scalar has none
abbrev pub object_subscripts : List Dim → ℕ → Option (List ℤ)
object_subscripts [] k = None
object_subscripts (d ∷ ds) k = Some (subscripts_of_place (d ∷ ds) k)

abbrev pub object_of : State → Clash → Object
object_of s c = record { name = c.name; subscripts = object_subscripts (array s c.name).dims c.place }

abbrev pub unless_clash : State → List Sequence → Option Clash → Result State Cause
unless_clash s axes None = Ok s
unless_clash s axes (Some c) = Err record { kind = Interfere; at = Between (indices_at axes c.earlier) (indices_at axes c.later) (object_of s c) }

-- A nest is entered with its limits kept and without interference. One without iterations is, whatever stands in it
abbrev pub check_nest : Nest → Block → State → Result State Cause
check_nest nest body s =
    if iteration_count nest s == 0 then Ok s else
    if is_nest_in_limits nest body s then unless_clash s (nest_axes s nest) (first_clash (iteration_touches nest body s) (iteration_count nest s)) else fails SpaceLimit

-- whether a loop is entered: one that isn't the outermost of a nest always is
abbrev pub entered : Mark → State → Result State Cause
entered Unmarked s = Ok s
entered (Outermost nest innermost) s = check_nest nest innermost s
