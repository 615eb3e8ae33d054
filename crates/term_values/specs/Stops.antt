-- Of a promise.
-- What an evaluation ends with where it has no value.
use Rattle.std.specs.Prelude.{◌≡◌, ℤ, option_map, box_value, Vec, Result, Err}
use Rattle.std.specs.declared.alloc.Global.{Global}
use Rattle.array_meaning.specs.Faults.{Cause, Location, Nowhere, AtTuple, Between, Object}
use Rattle.term_values.specs.declared.stops.Cause.{Cause as HeldCause}
use Rattle.term_values.specs.declared.stops.Interference.{Interference}
use Rattle.term_values.specs.declared.stops.Object.{Object as HeldObject}
use Rattle.term_values.specs.declared.stops.Place.{Place}
use Rattle.term_values.specs.declared.stops.Place.TheVariants as place
use Rattle.term_values.specs.declared.stops.Stop.{Stop}
use Rattle.term_values.specs.declared.stops.Stop.TheVariants.{Fault, Memory}

abbrev pub object : HeldObject → Object
object o = record { name = o.name; subscripts = option_map (λ v. v.items) o.subscripts }

-- between two iterations that interfere
abbrev pub interference : Interference → Location
interference pair = Between pair.earlier.items pair.later.items (object pair.object)

abbrev pub location : Place → Location
location place.Nowhere = Nowhere
location (place.AtTuple tuple) = AtTuple (box_value {X = Vec ℤ Global} tuple).items
location (place.Between pair) = interference (box_value {X = Interference} pair)

abbrev pub cause : HeldCause → Cause
cause c = record { kind = c.kind; at = location c.at }

-- the fault of an evaluation; want of memory says nothing of it
abbrev pub IsStop : {A : Type 0} → Result A Cause → Stop → Type 0
IsStop r (Fault c) = r ≡ Err (cause c)
IsStop r Memory = Unit {0}
