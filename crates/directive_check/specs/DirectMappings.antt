-- Of private clauses.
-- What private contracts see of the mappings that DISTRIBUTE gives. No public clause cites this file.
use Rattle.std.specs.Prelude.{◌≡◌, ⊤, All, List, pos, unwrap_or}
use Rattle.mappings.specs.declared.mapping.AlignDim.{AlignDim}
use Rattle.mappings.specs.declared.mapping.AlignDim.TheVariants.{Linear, At, Every}
use Rattle.mappings.specs.declared.mapping.Mapping.{Mapping}
use Rattle.syntax_tree.specs.Directive.{Distribution}
use Rattle.expression_rules.specs.Symbols.{Name}
use Rattle.distribution_rules.specs.Setting.{Setting}
use Rattle.directive_check.specs.MappedObjects.{MappedObject}
use Rattle.directive_check.specs.ProgramMaps.{distributed_as, replicated, start_mapping, with_root}

-- a subscript of the object itself
abbrev pub IsDirectAlign : AlignDim → Type 0
IsDirectAlign (Linear dim a b) = (a ≡ pos 1) × (b ≡ pos 0)
IsDirectAlign (At v) = ⊤
IsDirectAlign Every = ⊤

-- the mapping of an object that isn't aligned
abbrev pub IsDirect : Mapping → Type 0
IsDirect m = All (λ e. IsDirectAlign e.align) m.dims

-- the mapping of an array at the start, and after a REDISTRIBUTE of what its alignments end at
abbrev pub started : Setting → List MappedObject → Name → Mapping
started s ms x = unwrap_or (start_mapping s ms x) (replicated s.grid)

abbrev pub moved : Setting → List MappedObject → Distribution → Name → Name → Mapping
moved s ms d x root = unwrap_or (with_root s ms x (distributed_as s d root)) (replicated s.grid)
