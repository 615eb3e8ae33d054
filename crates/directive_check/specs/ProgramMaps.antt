-- Of the claim.
-- The mappings of a program's arrays: at the start, and after each REDISTRIBUTE (HPF 2.0, 3 and 8.3). Where a rule is broken so that a
-- mapping isn't known, the array counts as replicated; in a program that keeps the rules each mapping is known.
use Rattle.std.specs.Prelude.{ℕ, suc, List, [], ◌∷◌, ◌++◌, map, pos, Option, Some, None, unwrap_or, if◌then◌else◌}
use Rattle.std.specs.List.{flat_map}
use Rattle.mappings.specs.Alignment.{composed}
use Rattle.hpf_base.specs.declared.index.Shape.{Shape}
use Rattle.mappings.specs.declared.mapping.Mapping.{Mapping}
use Rattle.syntax_tree.specs.Directive as directive
use Rattle.syntax_tree.specs.MainProgram.{MainProgram}
use Rattle.expression_rules.specs.Dims.{extent}
use Rattle.expression_rules.specs.Symbols.{Name, is_among}
use Rattle.expression_rules.specs.declared.dims.Dim.{Dim}
use Rattle.statement_walk.specs.Head.{Head}
use Rattle.statement_walk.specs.Head as head
use Rattle.statement_walk.specs.Heads.{all_heads}
use Rattle.name_table.specs.Entries.{entries}
use Rattle.name_table.specs.declared.names.Entry.{Entry}
use Rattle.name_table.specs.declared.names.What.{What}
use Rattle.name_table.specs.declared.names.What.TheVariants as what
use Rattle.array_maps.specs.declared.maps.ArrayMap.{ArrayMap}
use Rattle.array_maps.specs.declared.maps.NewMap.{NewMap}
use Rattle.array_maps.specs.declared.maps.Redistribution.{Redistribution}
use Rattle.distribution_rules.specs.declared.objects.Object.{Object}
use Rattle.distribution_rules.specs.Distributed.{distributed}
use Rattle.distribution_rules.specs.DistributionRules.{distribution_values}
use Rattle.distribution_rules.specs.Setting.{Setting, arrays, dims_of, setting}
use Rattle.alignment_rules.specs.declared.alignment_values.Alignment.{Alignment}
use Rattle.alignment_rules.specs.declared.alignment_values.Alignment.TheVariants.{Known}
use Rattle.directive_check.specs.MappedObjects.{How, Distributed, MappedObject, how_mapped, mapped_objects}
use Rattle.directive_check.specs.Chains.{is_aligned, root_of, root_alignment}

-- every node owns all elements
abbrev pub replicated : List ℕ → Mapping
replicated grid = record { grid = grid; dims = [] }

-- the mapping that a DISTRIBUTE or a REDISTRIBUTE gives an object, where it is known
abbrev pub distributed_as : Setting → directive.Distribution → Name → Option Mapping
distributed_as s d x = distributed s (distribution_values s d) (dims_of s x)

-- that of an object that isn't aligned, at the start: without a DISTRIBUTE it is replicated
abbrev pub mapped_as : Setting → Name → Option How → Option Mapping
mapped_as s x (Some (Distributed d)) = distributed_as s d x
mapped_as s x h = Some (replicated s.grid)

abbrev pub start_of : Setting → List MappedObject → Name → Option Mapping
start_of s ms x = mapped_as s x (how_mapped ms x)

abbrev pub through : Option Mapping → Alignment → Option Mapping
through (Some m) (Known es) = Some (composed m es)
through m a = None

-- the mapping of an object, where this is that of what its alignments end at
abbrev pub with_root : Setting → List MappedObject → Name → Option Mapping → Option Mapping
with_root s ms x root = if is_aligned ms x then through root (root_alignment s ms x) else root

abbrev pub start_mapping : Setting → List MappedObject → Name → Option Mapping
start_mapping s ms x = with_root s ms x (start_of s ms (root_of s ms x))

-- ---- the arrays at the start

abbrev pub shape_of : List Dim → Shape
shape_of ds = record { lower = map (λ d. d.lower) ds; extent = map (λ d. pos (extent d)) ds }

abbrev pub start_map : Setting → List MappedObject → Name → What → List ArrayMap
start_map s ms x (what.Array ds n) =
    record { name = x; shape = shape_of ds; start = unwrap_or (start_mapping s ms x) (replicated s.grid) } ∷ []
start_map s ms x w = []

abbrev pub start_maps_in : Setting → List MappedObject → List Entry → List ArrayMap
start_maps_in s ms es = flat_map (λ e. start_map s ms e.name e.what) es

-- each declared array, in order, with its name, its shape and its mapping at the start, on a grid of these extents
abbrev pub start_maps : List ℕ → MainProgram → List ArrayMap
start_maps grid p = start_maps_in (setting grid p) (mapped_objects p.declarations) (entries p)

-- ---- the arrays that move

-- the array with this number moves with a REDISTRIBUTE where its alignments end at one of the objects
abbrev pub new_map : Setting → List MappedObject → directive.Distribution → ℕ → Name → List NewMap
new_map s ms d n x =
    if is_among (root_of s ms x) d.names then
    record { array = record { 0 = n }; map = unwrap_or (with_root s ms x (distributed_as s d (root_of s ms x))) (replicated s.grid) } ∷ []
    else []

abbrev pub new_maps_from : Setting → List MappedObject → directive.Distribution → ℕ → List Object → List NewMap
new_maps_from s ms d n [] = []
new_maps_from s ms d n (o ∷ os) = new_map s ms d n o.name ++ new_maps_from s ms d (suc n) os

-- what a REDISTRIBUTE in a line does: the arrays that move, in the order of their declarations, each with its new mapping
abbrev pub redistribution : Setting → List MappedObject → List Object → ℕ → directive.Distribution → Redistribution
redistribution s ms os line d = record { line = line; maps = new_maps_from s ms d 0 os }

abbrev pub moves_of : Setting → List MappedObject → List Object → ℕ → Head → List Redistribution
moves_of s ms os line (head.Redistribute d) = redistribution s ms os line d ∷ []
moves_of s ms os line h = []

-- each REDISTRIBUTE, in the order of the text, with its line and what it does
abbrev pub program_moves : List ℕ → MainProgram → List Redistribution
program_moves grid p =
    flat_map (λ h. moves_of (setting grid p) (mapped_objects p.declarations) (arrays (entries p)) h.line h.what) (all_heads p.body)
