-- Of the claim.
-- What mapping directives are judged by (HPF 2.0, 3): the processor grid, the declared names, and the arrays, templates and processor
-- arrangements with their dimensions.
use Rattle.std.specs.Prelude.{ℕ, Bool, true, false, bytes_eq, find, List, [], ◌∷◌, ◌++◌, map, ℤ, Option, Some, None}
use Rattle.std.specs.List.{flat_map}
use Rattle.syntax_tree.specs.Expression.{Expression}
use Rattle.syntax_tree.specs.Directive.{Entity, Processors, Template as TemplateDirective}
use Rattle.syntax_tree.specs.MainProgram.{Declared, Directed, MainProgram}
use Rattle.expression_rules.specs.Symbols.{Name, SymbolTable}
use Rattle.expression_rules.specs.declared.dims.Dim.{Dim}
use Rattle.expression_rules.specs.declared.evaluated.Evaluated.{Evaluated}
use Rattle.declarations.specs.Declarations.{bounds_of, symbol_table}
use Rattle.name_table.specs.Entries.{entries}
use Rattle.name_table.specs.declared.names.Entry.{Entry}
use Rattle.name_table.specs.declared.names.What.{What}
use Rattle.name_table.specs.declared.names.What.TheVariants as what
use Rattle.distribution_rules.specs.declared.objects.Object.{Object}
use Rattle.distribution_rules.specs.declared.objects.ObjectKind.{ObjectKind}
use Rattle.distribution_rules.specs.declared.objects.ObjectKind.TheVariants.{Array, Template, Arrangement}
use Rattle.distribution_rules.specs.Dimensions.{directive_value, dim_of}

pub record Setting : Type 0 where
  pub grid : List ℕ
  pub names : SymbolTable
  pub objects : List Object

-- an array is an object; a scalar and a constant aren't
abbrev pub array_of : Name → What → List Object
array_of x (what.Array ds n) = record { name = x; kind = Array; dims = map Some ds } ∷ []
array_of x w = []

-- the arrays, in the order of their declarations
abbrev pub arrays : List Entry → List Object
arrays es = flat_map (λ e. array_of e.name e.what) es

abbrev pub space : List ℕ → SymbolTable → ObjectKind → Entity → Object
space grid t kind e = record { name = e.name; kind = kind; dims = map (dim_of grid t) (bounds_of e.bounds) }

-- the templates and the processor arrangements of a declaration
abbrev pub spaces_of : List ℕ → SymbolTable → Declared → List Object
spaces_of grid t (Directed (Processors es)) = map (space grid t Arrangement) es
spaces_of grid t (Directed (TemplateDirective es)) = map (space grid t Template) es
spaces_of grid t d = []

abbrev pub setting : List ℕ → MainProgram → Setting
setting grid p = record {
  grid = grid;
  names = symbol_table p.declarations;
  objects = arrays (entries p) ++ flat_map (λ d. spaces_of grid (symbol_table p.declarations) d.what) p.declarations;
}

-- the value of an expression of a directive
abbrev pub value_in : Setting → Expression → Evaluated ℤ
value_in s e = directive_value s.grid s.names e

-- what a name stands for; None where it is no object
abbrev pub object : Setting → Name → Option Object
object s x = find (λ o. bytes_eq x o.name) s.objects

abbrev pub object_dims : Option Object → List (Option Dim)
object_dims None = []
object_dims (Some o) = o.dims

abbrev pub dims_of : Setting → Name → List (Option Dim)
dims_of s x = object_dims (object s x)

abbrev pub has_kind : (ObjectKind → Bool) → Option Object → Bool
has_kind test None = false
has_kind test (Some o) = test o.kind

abbrev pub is_array_kind : ObjectKind → Bool
is_array_kind Array = true
is_array_kind k = false

-- arrays and templates are mapped
abbrev pub is_mapped_kind : ObjectKind → Bool
is_mapped_kind Arrangement = false
is_mapped_kind k = true

abbrev pub is_arrangement_kind : ObjectKind → Bool
is_arrangement_kind Arrangement = true
is_arrangement_kind k = false
