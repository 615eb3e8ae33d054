-- Rules and mappings ask of mapped objects only how each name is mapped first, and of the names of DYNAMIC only which they are.
use Rattle.std.proofs.Common.{◌≡◌, ℕ, zero, suc, List, [], ◌∷◌, ◌++◌, length, Option, Some, None, bytes_eq, refl, ap, ◌∙◌}
use Rattle.std.specs.Prelude.{◌&&◌, ◌||◌, not, is_some, unwrap_or, if◌then◌else◌}
use Rattle.std.specs.List.{flat_map}
use Rattle.mappings.specs.declared.mapping.AlignDim.{AlignDim}
use Rattle.mappings.specs.declared.mapping.Mapping.{Mapping}
use Rattle.hpf_base.specs.declared.refusal.Reason.TheVariants.{BadDirective, Limit}
use Rattle.syntax_tree.specs.Directive.{Distribution}
use Rattle.expression_rules.specs.Symbols.{Name, is_among}
use Rattle.statement_walk.specs.Head.{Head}
use Rattle.statement_walk.specs.Head as head
use Rattle.statement_walk.specs.Heads.{PlacedHead}
use Rattle.declarations.specs.Reasons.{at, when}
use Rattle.distribution_rules.specs.Dimensions.{passes}
use Rattle.distribution_rules.specs.DistributionRules.{distribute_reasons}
use Rattle.distribution_rules.specs.Setting.{Setting, dims_of}
use Rattle.alignment_rules.specs.AlignmentRules.{has_elements}
use Rattle.name_table.specs.declared.names.Entry.{Entry}
use Rattle.name_table.specs.declared.names.What.{What}
use Rattle.name_table.specs.declared.names.What.TheVariants as what
use Rattle.distribution_rules.specs.declared.objects.Object.{Object}
use Rattle.directive_check.specs.ProgramMaps.{distributed_as, mapped_as, new_map, new_maps_from, replicated, shape_of}
use Rattle.directive_check.specs.ProgramMaps.{start_map, start_mapping, start_maps_in, start_of, through, with_root}
use Rattle.directive_check.specs.MappedObjects.{MappedObject, how_mapped}
use Rattle.directive_check.specs.Chains.{are_inside, chain_entries, chain_entries_from, entries_in, is_aligned, is_composed, limited, meets, root_alignment, root_from, root_of, target_in, target_of, through_target}
use Rattle.directive_check.specs.ChainSteps.{chain_breaches_in}
use Rattle.directive_check.specs.MappingRules.{chain_reasons, head_reasons, is_past, outside_reasons, redistribute_breaches_at, redistributee_reasons}

-- each name is mapped first as it is in the other list
abbrev pub MapSame : List MappedObject → List MappedObject → Type 0
MapSame a b = (x : Name) → how_mapped a x ≡ how_mapped b x

abbrev pub NameSame : List Name → List Name → Type 0
NameSame a b = (x : Name) → is_among x a ≡ is_among x b

target_same : (a b : List MappedObject) → MapSame a b → (x : Name) → target_of a x ≡ target_of b x
target_same a b same x = ap target_in (same x)

aligned_same : (a b : List MappedObject) → MapSame a b → (x : Name) → is_aligned a x ≡ is_aligned b x
aligned_same a b same x = ap is_some (target_same a b same x)

meets_same : (n : ℕ) (a b : List MappedObject) → MapSame a b → (x : Name) (y : Option Name) → meets n a x y ≡ meets n b x y
meets_same zero a b same x y = refl
meets_same (suc n) a b same x None = refl
meets_same (suc n) a b same x (Some y) =
    ap (λ t. bytes_eq x y || t) (meets_same n a b same x (target_of a y) ∙ ap (meets n b x) (target_same a b same y))

root_from_same : (n : ℕ) (a b : List MappedObject) → MapSame a b → (x : Name) (y : Option Name) → root_from n a x y ≡ root_from n b x y
root_from_same zero a b same x y = refl
root_from_same (suc n) a b same x None = refl
root_from_same (suc n) a b same x (Some y) = root_from_same n a b same y (target_of a y) ∙ ap (root_from n b y) (target_same a b same y)

root_same : (s : Setting) (a b : List MappedObject) → MapSame a b → (x : Name) → root_of s a x ≡ root_of s b x
root_same s a b same x =
    root_from_same (length s.names) a b same x (target_of a x) ∙ ap (root_from (length s.names) b x) (target_same a b same x)

entries_from_same : (n : ℕ) (s : Setting) (a b : List MappedObject) → MapSame a b → (x : Name) (y : Option Name) → chain_entries_from n s a x y ≡ chain_entries_from n s b x y
entries_from_same zero s a b same x y = refl
entries_from_same (suc n) s a b same x None = refl
entries_from_same (suc n) s a b same x (Some y) =
    let outer = entries_from_same n s a b same y (target_of a y) ∙ ap (chain_entries_from n s b y) (target_same a b same y) in
    (λ i. through_target (entries_in s x (same x i)) (target_same a b same y i) (outer i))

entries_same : (s : Setting) (a b : List MappedObject) → MapSame a b → (x : Name) → chain_entries s a x ≡ chain_entries s b x
entries_same s a b same x =
    entries_from_same (length s.names) s a b same x (target_of a x) ∙ ap (chain_entries_from (length s.names) s b x) (target_same a b same x)

composed_same : (a b : List MappedObject) → MapSame a b → (x : Name) → is_composed a x ≡ is_composed b x
composed_same a b same x = of_target (target_of a x) ∙ ap (passes (is_aligned b)) (target_same a b same x)
  where
    of_target : (y : Option Name) → passes (is_aligned a) y ≡ passes (is_aligned b) y
    of_target None = refl
    of_target (Some y) = aligned_same a b same y

root_alignment_same : (s : Setting) (a b : List MappedObject) → MapSame a b → (x : Name) → root_alignment s a x ≡ root_alignment s b x
root_alignment_same s a b same x = ap limited (entries_same s a b same x)

outside_same : (s : Setting) (a b : List MappedObject) → MapSame a b → (x : Name) (o : Option (List AlignDim)) → outside_reasons s a x o ≡ outside_reasons s b x o
outside_same s a b same x None = refl
outside_same s a b same x (Some es) =
    ap (λ r. when (has_elements (dims_of s x) && not (are_inside (dims_of s x) es (dims_of s r))) BadDirective) (root_same s a b same x)

chain_reasons_same : (s : Setting) (a b : List MappedObject) → MapSame a b → (x : Name) → chain_reasons s a x ≡ chain_reasons s b x
chain_reasons_same s a b same x =
    let cycles = meets_same (length s.names) a b same x (target_of a x) ∙ ap (meets (length s.names) b x) (target_same a b same x) in
    let outside = outside_same s a b same x (chain_entries s a x) ∙ ap (outside_reasons s b x) (entries_same s a b same x) in
    (λ i. when (cycles i) BadDirective ++ when (composed_same a b same x i && is_past (root_alignment_same s a b same x i)) Limit ++ outside i)

pub chain_breaches_same : (s : Setting) (a b : List MappedObject) → MapSame a b → (ms : List MappedObject) → chain_breaches_in s a ms ≡ chain_breaches_in s b ms
chain_breaches_same s a b same ms = λ i. flat_map (λ m. at m.line (chain_reasons_same s a b same m.name i)) ms

redistributee_same : (a b : List MappedObject) (ds es : List Name) → MapSame a b → NameSame ds es → (x : Name) →
    redistributee_reasons a ds x ≡ redistributee_reasons b es x
redistributee_same a b ds es same names x = λ i. when (not (names x i) || aligned_same a b same x i) BadDirective

head_same : (s : Setting) (a b : List MappedObject) (ds es : List Name) → MapSame a b → NameSame ds es → (h : Head) → head_reasons s a ds h ≡ head_reasons s b es h
head_same s a b ds es same names (head.Redistribute d) =
    λ i. distribute_reasons s d ++ flat_map (λ x. redistributee_same a b ds es same names x i) d.names
head_same s a b ds es same names (head.Assignment left right) = refl
head_same s a b ds es same names (head.MaskedAssignment mask left right) = refl
head_same s a b ds es same names (head.ForallAssignment axes left right) = refl
head_same s a b ds es same names (head.Condition cond) = refl
head_same s a b ds es same names (head.Independent m) = refl
head_same s a b ds es same names (head.Do mark axis) = refl
head_same s a b ds es same names (head.Where mask) = refl
head_same s a b ds es same names (head.Forall axes mask) = refl
head_same s a b ds es same names (head.Print items) = refl
head_same s a b ds es same names head.Transfer = refl

pub redistributes_same : (s : Setting) (a b : List MappedObject) (ds es : List Name) → MapSame a b → NameSame ds es → (hs : List PlacedHead) →
    flat_map (redistribute_breaches_at s a ds) hs ≡ flat_map (redistribute_breaches_at s b es) hs
redistributes_same s a b ds es same names hs = λ i. flat_map (λ p. at p.line (head_same s a b ds es same names p.what i)) hs

-- ---- mappings

with_root_same : (s : Setting) (a b : List MappedObject) → MapSame a b → (x : Name) (root : Option Mapping) → with_root s a x root ≡ with_root s b x root
with_root_same s a b same x root = λ i. if aligned_same a b same x i then through root (root_alignment_same s a b same x i) else root

start_mapping_same : (s : Setting) (a b : List MappedObject) → MapSame a b → (x : Name) → start_mapping s a x ≡ start_mapping s b x
start_mapping_same s a b same x =
    with_root_same s a b same x (start_of s a (root_of s a x))
    ∙ ap (with_root s b x) (ap (start_of s a) (root_same s a b same x) ∙ ap (mapped_as s (root_of s b x)) (same (root_of s b x)))

start_map_same : (s : Setting) (a b : List MappedObject) → MapSame a b → (x : Name) (w : What) → start_map s a x w ≡ start_map s b x w
start_map_same s a b same x (what.Array ds n) =
    ap (λ m. record { name = x; shape = shape_of ds; start = unwrap_or m (replicated s.grid) } ∷ []) (start_mapping_same s a b same x)
start_map_same s a b same x (what.Scalar n) = refl
start_map_same s a b same x (what.Constant n) = refl
start_map_same s a b same x what.Template = refl
start_map_same s a b same x what.Arrangement = refl

pub start_maps_same : (s : Setting) (a b : List MappedObject) → MapSame a b → (es : List Entry) → start_maps_in s a es ≡ start_maps_in s b es
start_maps_same s a b same es = λ i. flat_map (λ e. start_map_same s a b same e.name e.what i) es

new_map_same : (s : Setting) (a b : List MappedObject) → MapSame a b → (d : Distribution) (n : ℕ) (x : Name) → new_map s a d n x ≡ new_map s b d n x
new_map_same s a b same d n x =
    (λ i. if is_among (root_same s a b same x i) d.names then
    record {
      array = record { 0 = n };
      map = unwrap_or (with_root_same s a b same x (distributed_as s d (root_same s a b same x i)) i) (replicated s.grid);
    } ∷ []
    else [])

pub new_maps_same : (s : Setting) (a b : List MappedObject) → MapSame a b → (d : Distribution) (n : ℕ) (os : List Object) → new_maps_from s a d n os ≡ new_maps_from s b d n os
new_maps_same s a b same d n [] = refl
new_maps_same s a b same d n (o ∷ os) = λ i. new_map_same s a b same d n o.name i ++ new_maps_same s a b same d (suc n) os i
