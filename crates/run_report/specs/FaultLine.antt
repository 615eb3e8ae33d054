-- Of the claim.
-- The line that a fault is reported by.
use Rattle.std.specs.Prelude.{ℕ, List, [], ◌++◌, codes, decimal, ℤ, Option, Some, None, slice_get}
use Rattle.name_table.specs.declared.names.Entry.{Entry}
use Rattle.array_meaning.specs.declared.faults.FaultKind.{FaultKind}
use Rattle.array_meaning.specs.declared.faults.FaultKind.TheVariants.{Bounds, DivZero, Shape, ZeroStride, NotOneToOne, SpaceLimit, Interfere}
use Rattle.array_meaning.specs.Faults.{Fault, Location, Nowhere, AtTuple, Between, Object}
use Rattle.run_report.specs.TupleText.{tuple_text}

abbrev pub kind_name : FaultKind → List ℕ
kind_name Bounds = codes "Bounds"
kind_name DivZero = codes "DivZero"
kind_name Shape = codes "Shape"
kind_name ZeroStride = codes "ZeroStride"
kind_name NotOneToOne = codes "NotOneToOne"
kind_name SpaceLimit = codes "SpaceLimit"
kind_name Interfere = codes "Interfere"

-- a scalar by its name, and an element by that and its subscripts
abbrev pub name_text : Option Entry → List ℕ
name_text None = []
name_text (Some e) = e.name

abbrev pub subscripts_text : Option (List ℤ) → List ℕ
subscripts_text None = []
subscripts_text (Some ns) = tuple_text ns

abbrev pub object_text : List Entry → Object → List ℕ
object_text names o = name_text (slice_get names o.name) ++ subscripts_text o.subscripts

-- at which tuple, or between which two iterations and on what
abbrev pub place_text : List Entry → Location → List ℕ
place_text names Nowhere = []
place_text names (AtTuple ns) = codes " at " ++ tuple_text ns
place_text names (Between a b o) = codes " " ++ (tuple_text a ++ (codes " " ++ (tuple_text b ++ (codes " on " ++ object_text names o))))

-- the line, the kind and the place
abbrev pub fault_line : List Entry → Fault → List ℕ
fault_line names f = codes "hpf: line " ++ decimal f.line ++ codes ": fault " ++ kind_name f.kind ++ place_text names f.at ++ codes "\n"
