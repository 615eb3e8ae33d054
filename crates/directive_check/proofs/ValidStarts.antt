-- The mappings with which arrays start are valid, where no rule is broken.
use Rattle.std.proofs.Common.{◌≡◌, ℕ, Bool, true, false, List, [], ◌∷◌, ◌++◌, get_or, length, map, All, Option, Some, None, refl, sym, ap, subst, ◌∙◌, arith}
use Rattle.std.specs.Prelude.{⊤, IfSome, is_some, unwrap_or, ◌&&◌, not, if◌then◌else◌}
use Rattle.std.proofs.lemmas.List.{length-map}
use Rattle.std.proofs.lemmas.List.Elements.{All-append, All-cons, All-nil}
use Rattle.std.proofs.lemmas.Option.{same_Some}
use Rattle.mappings.specs.Alignment.{composed}
use Rattle.hpf_base.specs.ElementOrder.{elements, product}
use Rattle.hpf_base.specs.Grid.{IsGrid}
use Rattle.mappings.specs.Mapping.{IsMapping}
use Rattle.mappings.specs.declared.mapping.AlignDim.{AlignDim}
use Rattle.mappings.specs.declared.mapping.Mapping.{Mapping}
use Rattle.hpf_base.specs.declared.refusal.Reason.TheVariants as reason
use Rattle.syntax_tree.specs.Directive as directive
use Rattle.expression_rules.specs.Dims.{AreDims, IsDim}
use Rattle.expression_rules.specs.Symbols.{Name}
use Rattle.expression_rules.specs.declared.dims.Dim.{Dim}
use Rattle.declarations.specs.Reasons.{when}
use Rattle.name_table.specs.declared.names.Entry.{Entry}
use Rattle.name_table.specs.declared.names.What.{What}
use Rattle.name_table.specs.declared.names.What.TheVariants as what
use Rattle.array_maps.specs.Maps.{IsArrayMap, IsMapOf}
use Rattle.distribution_rules.specs.declared.objects.Object.{Object}
use Rattle.distribution_rules.specs.Distributed.{distributed}
use Rattle.distribution_rules.specs.DistributionRules.{distribution_values, distributee_reasons}
use Rattle.distribution_rules.specs.MappingOf.{IsMappingOf}
use Rattle.distribution_rules.specs.Setting.{Setting, dims_of, object, object_dims}
use Rattle.distribution_rules.proofs.DistributedMaps.{gives_mapping}
use Rattle.alignment_rules.specs.declared.alignment_values.Alignment.{Alignment}
use Rattle.alignment_rules.specs.declared.alignment_values.Alignment.TheVariants.{Known, PastLimits, Unknown}
use Rattle.alignment_rules.specs.AlignedEntries.{AreSubscripts}
use Rattle.alignment_rules.specs.AlignmentRules.{has_elements}
use Rattle.alignment_rules.proofs.InsideTargets.{none_empty}
use Rattle.directive_check.specs.MappedObjects.{How, Aligned, Distributed, MappedObject, how_mapped}
use Rattle.directive_check.specs.Chains.{are_inside, chain_entries, is_composed, is_on_cycle, root_alignment, root_from, root_of, target_in, target_of}
use Rattle.directive_check.specs.MappingRules.{chain_breaches, chain_reasons, is_past, outside_reasons}
use Rattle.directive_check.specs.ProgramMaps.{distributed_as, mapped_as, replicated, shape_of, start_map, start_maps_in, start_mapping, start_of, through, with_root}
use Rattle.directive_check.proofs.ValidChains.{AreSound, chain_valid, limited_known, root_here}
use Rattle.directive_check.proofs.ValidInside.{alone_inside, composed_inside}
use Rattle.directive_check.proofs.ValidMapped.{AllGood, GoodHow, all_sound, chain_found, good_found, none_of}
use Rattle.directive_check.proofs.ValidShapes.{all_elements, shape_is}

-- ---- objects that aren't aligned

-- the bounds of every object that are known are within the limits
abbrev pub Sized : Setting → Type 0
Sized s = (y : Name) (o : Object) → object s y ≡ Some o → All (λ d. IfSome d IsDim) o.dims

pub replicated_of : (grid : List ℕ) (ds : List (Option Dim)) → IsMappingOf grid ds (replicated grid)
replicated_of grid ds = record {
  valid = record {
    entries = λ k z within. absurd (omega (arith, within));
    grid_dims = λ i j z before within. absurd (omega (arith, within));
    apart = λ i j z before within. absurd (omega (arith, within));
  };
  onto = refl;
  lines = λ k z within. absurd (omega (arith, within));
}

pub distributed_of : (s : Setting) (d : directive.Distribution) (y : Name) (r : Mapping) → IsGrid s.grid → Sized s → GoodHow s y (Distributed d) → distributed_as s d y ≡ Some r →
    IsMappingOf s.grid (dims_of s y) r
distributed_of s d y r grid sized good is = by (object s y) refl good.1 is
  where
    by : (o : Option Object) → object s y ≡ o → distributee_reasons (distribution_values s d) o ≡ [] → distributed s (distribution_values s d) (object_dims o) ≡ Some r →
        IsMappingOf s.grid (object_dims o) r
    by None found none is = absurd cc
    by (Some o) found none is = gives_mapping s (distribution_values s d) o r grid (sized y o found) good.0 none is

start_root : (s : Setting) (ms : List MappedObject) (y : Name) (r : Mapping) → IsGrid s.grid → Sized s → AllGood s ms → start_of s ms y ≡ Some r →
    IsMappingOf s.grid (dims_of s y) r
start_root s ms y r grid sized good is = by (how_mapped ms y) refl is
  where
    by : (h : Option How) → how_mapped ms y ≡ h → mapped_as s y h ≡ Some r → IsMappingOf s.grid (dims_of s y) r
    by None how is = subst (IsMappingOf s.grid (dims_of s y)) (same_Some (replicated s.grid) r is) (replicated_of s.grid (dims_of s y))
    by (Some (Aligned a)) how is = subst (IsMappingOf s.grid (dims_of s y)) (same_Some (replicated s.grid) r is) (replicated_of s.grid (dims_of s y))
    by (Some (Distributed d)) how is = distributed_of s d y r grid sized (good_found s ms y (Distributed d) good how) is

-- ---- mappings of arrays

same_rank : (ds : List Dim) → length (map Some ds) ≡ length (map (λ d. d.lower) ds)
same_rank ds = length-map ds Some ∙ sym (length-map ds (λ d. d.lower))

-- of an array that isn't aligned
pub map_of : (grid : List ℕ) (ds : List Dim) (r : Mapping) → IsMappingOf grid (map Some ds) r → IsMapOf (product grid) (shape_of ds) r
map_of grid ds r is = record {
  valid = subst (λ n. IsMapping n r) (same_rank ds) is.valid;
  onto = is.onto;
  inside = λ k z within. alone_inside (map Some ds) r _ is.lines (all_elements ds k z within);
}

inside_true : (some inside : Bool) → when (some && not inside) reason.BadDirective ≡ [] → some ≡ true → inside ≡ true
inside_true true true none is = refl
inside_true true false none is = absurd cc
inside_true false inside none is = absurd cc

-- of one that is
chain_of : (s : Setting) (ms : List MappedObject) (x : Name) (ds : List Dim) (r : Mapping) (zs : List AlignDim) → dims_of s x ≡ map Some ds → AreSound s ms →
    chain_reasons s ms x ≡ [] → IsMappingOf s.grid (dims_of s (root_of s ms x)) r → root_alignment s ms x ≡ Known zs → IsMapOf (product s.grid) (shape_of ds) (composed r zs)
chain_of s ms x ds r zs own sound none is known = record {
  valid = subst (λ n. IsMapping n (composed r zs)) (ap length own ∙ same_rank ds) (chain_valid (length s.names) s ms sound x (target_of ms x) refl zs r entries is.valid);
  onto = is.onto;
  inside = λ k z within.
      let index = get_or (elements (shape_of ds)) k z in
      let element = subst (λ bs. AreSubscripts bs index) (sym own) (all_elements ds k z within) in
      composed_inside (dims_of s (root_of s ms x)) (dims_of s x) zs r index is.lines element
      (inside_true (has_elements (dims_of s x)) (are_inside (dims_of s x) zs (dims_of s (root_of s ms x)))
      (subst (λ o. outside_reasons s ms x o ≡ []) entries
      (none_of (when (is_on_cycle s ms x) reason.BadDirective ++ when (is_composed ms x && is_past (root_alignment s ms x)) reason.Limit) (outside_reasons s ms x (chain_entries s ms x)) none).1)
      (ap not (none_empty (dims_of s x) index element)));
}
  where
    entries : chain_entries s ms x ≡ Some zs
    entries = limited_known (chain_entries s ms x) zs known

-- what is put through an alignment
record Through (root : Option Mapping) (a : Alignment) (m : Mapping) : Type 0 where
  r : Mapping
  zs : List AlignDim
  first : root ≡ Some r
  second : a ≡ Known zs
  all : composed r zs ≡ m

put_through : (root : Option Mapping) (a : Alignment) (m : Mapping) → through root a ≡ Some m → Through root a m
put_through None a m is = absurd cc
put_through (Some r) PastLimits m is = absurd cc
put_through (Some r) Unknown m is = absurd cc
put_through (Some r) (Known zs) m is = record { r = r; zs = zs; first = refl; second = refl; all = same_Some (composed r zs) m is }

-- of any array, where the mapping of what its alignments end at is valid
pub with_root_of : (s : Setting) (ms : List MappedObject) (x : Name) (ds : List Dim) (root : Option Mapping) (m : Mapping) → dims_of s x ≡ map Some ds → AreSound s ms →
    ((h : How) → how_mapped ms x ≡ Some h → chain_reasons s ms x ≡ []) → ((r : Mapping) → root ≡ Some r → IsMappingOf s.grid (dims_of s (root_of s ms x)) r) →
    with_root s ms x root ≡ Some m → IsMapOf (product s.grid) (shape_of ds) m
with_root_of s ms x ds root m own sound none valid is = by (how_mapped ms x) refl is
  where
    alone : (h : Option How) → how_mapped ms x ≡ h → target_in h ≡ None → root ≡ Some m → IsMapOf (product s.grid) (shape_of ds) m
    alone h how free is =
        let itself : root_of s ms x ≡ x = ap (root_from (length s.names) ms x) (ap target_in how ∙ free) ∙ root_here (length s.names) ms x in
        map_of s.grid ds m (subst (λ bs. IsMappingOf s.grid bs m) (ap (dims_of s) itself ∙ own) (valid m is))

    by : (h : Option How) → how_mapped ms x ≡ h → (if is_some (target_in h) then through root (root_alignment s ms x) else root) ≡ Some m → IsMapOf (product s.grid) (shape_of ds) m
    by None how is = alone None how refl is
    by (Some (Distributed d)) how is = alone (Some (Distributed d)) how refl is
    by (Some (Aligned a)) how is =
        let t = put_through root (root_alignment s ms x) m is in
        subst (IsMapOf (product s.grid) (shape_of ds)) t.all (chain_of s ms x ds t.r t.zs own sound (none (Aligned a) how) (valid t.r t.first) t.second)

-- ---- the arrays of a program

-- an array has the dimensions that its entry says
abbrev pub OwnEntry : Setting → Name → What → Type 0
OwnEntry s x (what.Array ds n) = AreDims ds × (dims_of s x ≡ map Some ds)
OwnEntry s x w = ⊤

abbrev pub AllOwn : Setting → List Entry → Type 0
AllOwn s [] = ⊤
AllOwn s (e ∷ es) = OwnEntry s e.name e.what × AllOwn s es

pub either : (P : Mapping → Type 0) (o : Option Mapping) (other : Mapping) → ((m : Mapping) → o ≡ Some m → P m) → P other → P (unwrap_or o other)
either P None other some none = none
either P (Some m) other some none = some m refl

start_array : (s : Setting) (ms : List MappedObject) (x : Name) (w : What) → IsGrid s.grid → Sized s → AllGood s ms → chain_breaches s ms ≡ [] → OwnEntry s x w →
    All (IsArrayMap (product s.grid)) (start_map s ms x w)
start_array s ms x (what.Array ds n) grid sized good none own =
    All-cons (IsArrayMap (product s.grid)) _ []
    (record {
      shape = shape_is ds own.0;
      start = either (IsMapOf (product s.grid) (shape_of ds)) (start_mapping s ms x) (replicated s.grid)
          (λ m is. with_root_of s ms x ds (start_of s ms (root_of s ms x)) m own.1 (all_sound s ms good) (λ h how. chain_found s ms ms x h none how)
          (λ r gives. start_root s ms (root_of s ms x) r grid sized good gives) is)
          (map_of s.grid ds (replicated s.grid) (replicated_of s.grid (map Some ds)));
    })
    (All-nil (IsArrayMap (product s.grid)))
start_array s ms x (what.Scalar n) grid sized good none own = All-nil (IsArrayMap (product s.grid))
start_array s ms x (what.Constant n) grid sized good none own = All-nil (IsArrayMap (product s.grid))
start_array s ms x what.Template grid sized good none own = All-nil (IsArrayMap (product s.grid))
start_array s ms x what.Arrangement grid sized good none own = All-nil (IsArrayMap (product s.grid))

-- the mappings at the start are valid
pub starts_valid : (s : Setting) (ms : List MappedObject) (es : List Entry) → IsGrid s.grid → Sized s → AllGood s ms → chain_breaches s ms ≡ [] → AllOwn s es →
    All (IsArrayMap (product s.grid)) (start_maps_in s ms es)
starts_valid s ms [] grid sized good none own = All-nil (IsArrayMap (product s.grid))
starts_valid s ms (e ∷ es) grid sized good none own =
    All-append (IsArrayMap (product s.grid)) (start_map s ms e.name e.what) (start_maps_in s ms es)
    (start_array s ms e.name e.what grid sized good none own.0) (starts_valid s ms es grid sized good none own.1)
