-- Of private clauses.
-- What stands at a tuple: the places of sections, reads and values.
use Rattle.std.specs.Prelude.{ℕ, List, ℤ, Option, Result}
use Rattle.storage.specs.Storage.{Spot}
use Rattle.op_tables.specs.declared.op.Op.{Op}
use Rattle.array_meaning.specs.Elementals.{operated}
use Rattle.array_meaning.specs.Faults.{Cause, ◌>>=◌}
use Rattle.array_meaning.specs.State.{element_place}
use Rattle.array_meaning.specs.Sections.{subscripts_at}
use Rattle.node_code.specs.Forms.{Sub, ArrayForm, Forms}
use Rattle.code_meaning.specs.Forms.{selections_at, elemental_at, elementals_at}
use Rattle.code_meaning.specs.NestStatements.{nest_elemental, nest_elementals}
use Rattle.code_meaning.specs.Parallel.{shape_of, reads_at, all_reads_at}
use Rattle.tuple_values.specs.declared.here.Here.{Here}
use Rattle.tuple_values.specs.ByElements.{value_by_elements, values_by_elements}

-- the subscripts of a section's element
abbrev pub subscripts_here : Here → List Sub → List ℤ
subscripts_here h ds = subscripts_at (selections_at h.slots.now h.axes.now ds) h.tuple.now

abbrev pub place_here : Here → ℕ → List Sub → Option ℕ
place_here h a ds = element_place (shape_of h.shapes.now a) (subscripts_here h ds)

-- what an array expression reads, and its value
abbrev pub reads_here : Here → ArrayForm → List (Option Spot)
reads_here h f = reads_at h.shapes.now h.tuple.now (elemental_at h.slots.now h.axes.now f)

abbrev pub all_reads_here : Here → Forms → List (Option Spot)
all_reads_here h fs = all_reads_at h.shapes.now h.tuple.now (elementals_at h.slots.now h.axes.now fs)

abbrev pub value_here : Here → (Spot → ℤ) → ArrayForm → Result ℤ Cause
value_here h get f = value_by_elements h.shapes.now get h.tuple.now (nest_elemental h.slots.now h.axes.now h.seen.now f)

abbrev pub values_here : Here → (Spot → ℤ) → Forms → Result (List ℤ) Cause
values_here h get fs = values_by_elements h.shapes.now get h.tuple.now (nest_elementals h.slots.now h.axes.now h.seen.now fs)

-- the value of an operator
abbrev pub operation_here : Here → (Spot → ℤ) → Op → Forms → Result ℤ Cause
operation_here h get o fs = values_here h get fs >>= operated o
