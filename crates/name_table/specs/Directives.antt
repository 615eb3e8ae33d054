-- Of the claim.
-- The names and the expressions in mapping directives (HPF 2.0, 3).
use Rattle.std.specs.Prelude.{List, [], ◌∷◌, ◌++◌, Option, Some, None}
use Rattle.std.specs.List.{flat_map}
use Rattle.syntax_tree.specs.Expression.{Expression, Part, One, Range, Glued, Maybe, Absent, Present}
use Rattle.syntax_tree.specs.Directive.{Entity, Directive, Processors, Template, Dynamic, Distribute, Align, Distribution, Alignment, Source, Dummy, Target, Placed, Replicated}
use Rattle.expression_rules.specs.Symbols.{Name}
use Rattle.expression_rules.specs.Inner.{present, bound_expressions, format_expressions}
use Rattle.declarations.specs.Declarations.{bounds_of}

-- the names in its lists
abbrev pub distribution_names : Distribution → List Name
distribution_names d = d.names ++ present d.onto

abbrev pub directive_names : Directive → List Name
directive_names (Dynamic xs) = xs
directive_names (Distribute d) = distribution_names d
directive_names (Align a) = a.names ++ a.target ∷ []
directive_names d = []

-- its expressions
abbrev pub maybe_expressions : Maybe → List Expression
maybe_expressions Absent = []
maybe_expressions (Present e) = e ∷ []

abbrev pub part_expressions : Part → List Expression
part_expressions (One e) = e ∷ []
part_expressions (Range a b c) = maybe_expressions a ++ maybe_expressions b ++ maybe_expressions c
part_expressions (Glued a c) = maybe_expressions a ++ c ∷ []

abbrev pub target_expressions : Target → List Expression
target_expressions (Placed p) = part_expressions p
target_expressions Replicated = []

abbrev pub targets_of : Option (List Target) → List Target
targets_of None = []
targets_of (Some ts) = ts

abbrev pub entity_expressions : Entity → List Expression
entity_expressions e = flat_map bound_expressions (bounds_of e.bounds)

abbrev pub directive_expressions : Directive → List Expression
directive_expressions (Processors es) = flat_map entity_expressions es
directive_expressions (Template es) = flat_map entity_expressions es
directive_expressions (Distribute d) = flat_map format_expressions d.formats
directive_expressions (Align a) = flat_map target_expressions (targets_of a.subscripts)
directive_expressions d = []

-- the align dummies, which are names of their directive only
abbrev pub dummy_of : Source → List Name
dummy_of (Dummy x) = x ∷ []
dummy_of s = []

abbrev pub sources_of : Option (List Source) → List Source
sources_of None = []
sources_of (Some ss) = ss

abbrev pub dummies : Alignment → List Name
dummies a = flat_map dummy_of (sources_of a.sources)

abbrev pub directive_dummies : Directive → List Name
directive_dummies (Align a) = dummies a
directive_dummies d = []
