-- Of private clauses.
-- What private contracts see of the objects of a program and of extents. No public clause cites this file.
use Rattle.std.specs.Prelude.{ℕ, List, [], ◌∷◌, ◌++◌, Option, Some, None}
use Rattle.std.specs.List.{flat_map}
use Rattle.syntax_tree.specs.MainProgram.{Declaration}
use Rattle.expression_rules.specs.Dims.{extent}
use Rattle.expression_rules.specs.Symbols.{SymbolTable}
use Rattle.expression_rules.specs.declared.dims.Dim.{Dim}
use Rattle.name_table.specs.declared.names.Entry.{Entry}
use Rattle.distribution_rules.specs.declared.objects.Object.{Object}
use Rattle.distribution_rules.specs.Setting.{array_of, arrays, spaces_of}

-- the arrays among these names, and the templates and the arrangements of declarations
abbrev pub program_objects : List ℕ → SymbolTable → List Entry → List Declaration → List Object
program_objects grid t es ds = arrays es ++ flat_map (λ d. spaces_of grid t d.what) ds

-- the array at a place, if there is one
abbrev pub arrays_at : Option Entry → List Object
arrays_at None = []
arrays_at (Some e) = array_of e.name e.what

-- extents, and one or more after them, where all are known
abbrev pub and_extent : Option (List ℕ) → Option Dim → Option (List ℕ)
and_extent (Some ns) (Some d) = Some (ns ++ extent d ∷ [])
and_extent ns d = None

abbrev pub and_extents : Option (List ℕ) → Option (List ℕ) → Option (List ℕ)
and_extents (Some ns) (Some ms) = Some (ns ++ ms)
and_extents ns ms = None
