-- Of private clauses.
-- The value of an operator over slots.
use Rattle.std.specs.Prelude.{List, [], ℤ, Result}
use Rattle.op_tables.specs.declared.op.Op.{Op}
use Rattle.array_meaning.specs.Elementals.{operated}
use Rattle.array_meaning.specs.Faults.{Cause, ◌>>=◌}
use Rattle.node_code.specs.Flat.{Flats}
use Rattle.code_meaning.specs.Flat.{flat_values}

abbrev pub operation_value : List ℤ → List ℤ → Op → Flats → Result ℤ Cause
operation_value slots axes o fs = flat_values slots axes [] fs >>= operated o
