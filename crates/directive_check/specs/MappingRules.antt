-- Of the claim.
-- The rules of mapping directives over a whole program (HPF 2.0, 3 and 8): what each part of it breaks of them, with its line and
-- the reason.
use Rattle.std.specs.Prelude.{ℕ, Bool, true, false, ◌&&◌, ◌||◌, not, List, [], ◌++◌, Option, Some, None}
use Rattle.std.specs.List.{flat_map}
use Rattle.hpf_base.specs.declared.refusal.Reason.{Reason}
use Rattle.hpf_base.specs.declared.refusal.Reason.TheVariants as reason
use Rattle.hpf_base.specs.declared.refusal.Refusal.{Refusal}
use Rattle.mappings.specs.declared.mapping.AlignDim.{AlignDim}
use Rattle.syntax_tree.specs.Directive.{Distribute, Align, Distribution}
use Rattle.syntax_tree.specs.MainProgram.{Declared, Directed, Declaration, MainProgram}
use Rattle.expression_rules.specs.Symbols.{Name, is_among}
use Rattle.statement_walk.specs.Head.{Head}
use Rattle.statement_walk.specs.Head as head
use Rattle.statement_walk.specs.Heads.{PlacedHead, all_heads}
use Rattle.declarations.specs.Reasons.{at, when}
use Rattle.distribution_rules.specs.Setting.{Setting, setting, dims_of}
use Rattle.distribution_rules.specs.SpaceRules.{space_reasons}
use Rattle.distribution_rules.specs.DistributionRules.{distribute_reasons}
use Rattle.alignment_rules.specs.declared.alignment_values.Alignment.{Alignment}
use Rattle.alignment_rules.specs.declared.alignment_values.Alignment.TheVariants.{PastLimits}
use Rattle.alignment_rules.specs.AlignmentRules.{align_reasons, has_elements}
use Rattle.directive_check.specs.MappedObjects.{MappedObject, mapped_objects, mapped_twice, dynamic_names, dynamic_objects, dynamic_breaches}
use Rattle.directive_check.specs.Chains.{is_aligned, is_composed, is_on_cycle, root_of, chain_entries, root_alignment, are_inside}

-- what is wrong with a declaration by itself
abbrev pub declared_reasons : Setting → Declared → List Reason
declared_reasons s (Directed (Distribute d)) = distribute_reasons s d
declared_reasons s (Directed (Align a)) = align_reasons s a
declared_reasons s d = space_reasons s d

abbrev pub declared_breaches : Setting → List Declaration → List Refusal
declared_breaches s ds = flat_map (λ d. at d.line (declared_reasons s d.what)) ds

abbrev pub is_past : Alignment → Bool
is_past PastLimits = true
is_past a = false

-- an element lies outside what its alignments end at. Where each element of the objects between lies inside their targets, this is so only
-- if one of these objects has no elements
abbrev pub outside_reasons : Setting → List MappedObject → Name → Option (List AlignDim) → List Reason
outside_reasons s ms x None = []
outside_reasons s ms x (Some es) = when (has_elements (dims_of s x) && not (are_inside (dims_of s x) es (dims_of s (root_of s ms x)))) reason.BadDirective

-- what is wrong with an object among the others: a cycle of alignments; or, where no ALIGN of its chain breaks a rule by itself, the limits
-- of an alignment that is composed, and where it leads
abbrev pub chain_reasons : Setting → List MappedObject → Name → List Reason
chain_reasons s ms x =
    when (is_on_cycle s ms x) reason.BadDirective
    ++ when (is_composed ms x && is_past (root_alignment s ms x)) reason.Limit
    ++ outside_reasons s ms x (chain_entries s ms x)

abbrev pub chain_breaches : Setting → List MappedObject → List Refusal
chain_breaches s ms = flat_map (λ m. at m.line (chain_reasons s ms m.name)) ms

-- a REDISTRIBUTE of what isn't DYNAMIC or is aligned
abbrev pub redistributee_reasons : List MappedObject → List Name → Name → List Reason
redistributee_reasons ms dynamic x = when (not (is_among x dynamic) || is_aligned ms x) reason.BadDirective

abbrev pub redistribute_reasons : Setting → List MappedObject → List Name → Distribution → List Reason
redistribute_reasons s ms dynamic d = distribute_reasons s d ++ flat_map (redistributee_reasons ms dynamic) d.names

abbrev pub head_reasons : Setting → List MappedObject → List Name → Head → List Reason
head_reasons s ms dynamic (head.Redistribute d) = redistribute_reasons s ms dynamic d
head_reasons s ms dynamic h = []

abbrev pub redistribute_breaches_at : Setting → List MappedObject → List Name → PlacedHead → List Refusal
redistribute_breaches_at s ms dynamic p = at p.line (head_reasons s ms dynamic p.what)

-- all that a program breaks of the rules of mapping directives, in a setting
abbrev pub breaches_in : Setting → MainProgram → List Refusal
breaches_in s p =
    declared_breaches s p.declarations
    ++ mapped_twice [] (mapped_objects p.declarations)
    ++ chain_breaches s (mapped_objects p.declarations)
    ++ dynamic_breaches s [] (dynamic_names p.declarations)
    ++ flat_map (redistribute_breaches_at s (mapped_objects p.declarations) (dynamic_objects p.declarations)) (all_heads p.body)

-- all that a program breaks of the rules of mapping directives, on a grid of these extents
abbrev pub mapping_breaches : List ℕ → MainProgram → List Refusal
mapping_breaches grid p = breaches_in (setting grid p) p
