-- Of private clauses.
-- What private contracts see of mapped objects, which are taken one after the other. No public clause cites this file.
use Rattle.std.specs.Prelude.{◌≡◌, ⊤, ℕ, Bool, List, [], map, None}
use Rattle.syntax_tree.specs.declared.decl.Decl.{Decl}
use Rattle.syntax_tree.specs.declared.decl.DeclKind.{DeclKind}
use Rattle.syntax_tree.specs.declared.decl.DeclKind.TheVariants as declared
use Rattle.syntax_tree.specs.declared.directive.Directive.{Directive}
use Rattle.syntax_tree.specs.declared.directive.Directive.TheVariants as directive
use Rattle.syntax_tree.specs.Directive.{Distribution, alignment, distribution, names_of}
use Rattle.expression_rules.specs.Symbols.{Name}
use Rattle.directive_check.specs.declared.mapped_object.MappedObject.{MappedObject as HeldObject}
use Rattle.directive_check.specs.declared.dynamic_names.DynamicName.{DynamicName as HeldName}
use Rattle.directive_check.specs.MappedObjects.{How, Distributed, Aligned, MappedObject, DynamicName}

-- how a directive maps its objects; one that maps none counts as a DISTRIBUTE without formats
abbrev pub no_formats : Distribution
no_formats = record { names = []; formats = []; onto = None }

abbrev pub how_of : Directive → How
how_of (directive.Distribute d) = Distributed (distribution d)
how_of (directive.Align a) = Aligned (alignment a)
how_of d = Distributed no_formats

-- the names after `::`, or exactly one before the list
abbrev pub AreListed : Bool → List Name → Type 0
AreListed colons xs = names_of colons xs ≡ xs

abbrev pub IsListedDirective : Directive → Type 0
IsListedDirective (directive.Distribute d) = AreListed d.colons d.names
IsListedDirective (directive.Align a) = AreListed a.colons a.names
IsListedDirective d = ⊤

abbrev pub IsListedKind : DeclKind → Type 0
IsListedKind (declared.Directive d) = IsListedDirective d
IsListedKind d = ⊤

abbrev pub IsListed : Decl → Type 0
IsListed d = IsListedKind d.what

-- a name of a DYNAMIC of a line
abbrev pub dynamic_at : ℕ → Name → DynamicName
dynamic_at line x = record { line = line; name = x }

-- objects, as a tree has them
abbrev pub mapped_of : HeldObject → MappedObject
mapped_of m = record { line = m.line; name = m.name.now; how = how_of m.directive.now }

abbrev pub mapped : List HeldObject → List MappedObject
mapped ms = map mapped_of ms

-- names of DYNAMIC, as a tree has them
abbrev pub dynamic : List HeldName → List DynamicName
dynamic ds = map (λ d. dynamic_at d.line d.name) ds
