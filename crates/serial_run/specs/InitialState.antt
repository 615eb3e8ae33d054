-- Of private clauses.
-- The initial values of a name that there may be.
use Rattle.std.specs.Prelude.{ℤ, pos, Option, Some, None}
use Rattle.name_table.specs.declared.names.Entry.{Entry}
use Rattle.array_meaning.specs.Resolution.{initial_array, initial_scalar}
use Rattle.array_meaning.specs.State.{Array, no_array}

abbrev pub scalar_of : Option Entry → ℤ
scalar_of None = pos 0
scalar_of (Some e) = initial_scalar e.what

abbrev pub array_of : Option Entry → Array
array_of None = no_array
array_of (Some e) = initial_array e.what
