-- Of the claim.
-- What a program declares (Fortran 95, 5; HPF 2.0, 3.6 and 3.7): its names in the order of their declarations, each with what it is.
use Rattle.std.specs.Prelude.{ℤ, pos, List, [], map, bytes_eq, position, slice_get, Option, Some, None, option_map, option_and_then}
use Rattle.syntax_tree.specs.MainProgram.{MainProgram}
use Rattle.expression_rules.specs.Symbols.{Name}
use Rattle.expression_rules.specs.declared.dims.Dim.{Dim}
use Rattle.expression_rules.specs.declared.symbols.Symbol.{Symbol}
use Rattle.expression_rules.specs.declared.symbols.Symbol.TheVariants as symbol
use Rattle.name_table.specs.declared.names.Entry.{Entry}
use Rattle.name_table.specs.declared.names.What.{What}
use Rattle.name_table.specs.declared.names.What.TheVariants.{Scalar, Constant, Array, Template, Arrangement}
use Rattle.declarations.specs.Declarations.{symbol_table}

-- what isn't known counts as 0, and dimensions that aren't known as none; no program that keeps the rules has such
abbrev pub or_zero : Option ℤ → ℤ
or_zero None = pos 0
or_zero (Some n) = n

abbrev pub or_none : Option (List Dim) → List Dim
or_none None = []
or_none (Some ds) = ds

abbrev pub what_is : Symbol → What
what_is symbol.Uninitialized = Scalar (pos 0)
what_is (symbol.Initialized n) = Scalar (or_zero n)
what_is (symbol.Constant n) = Constant (or_zero n)
what_is (symbol.Array rank ds n) = Array (or_none ds) (or_zero n)
what_is (symbol.Template rank) = Template
what_is (symbol.Arrangement rank) = Arrangement

abbrev pub entry : Name × Symbol → Entry
entry e = record { name = e.0; what = what_is e.1 }

-- the entries of a program
abbrev pub entries : MainProgram → List Entry
entries p = map entry (symbol_table p.declarations)

-- what a declared name is; None where it isn't declared
abbrev pub declared_as : List Entry → Name → Option What
declared_as names x = option_map (λ e. e.what) (option_and_then (slice_get names) (position (λ e. bytes_eq x e.name) names))
