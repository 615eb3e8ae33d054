-- Of the claim.
-- The rules of ALIGN (HPF 2.0, 3.4).
use Rattle.std.specs.Prelude.{ℕ, ◌==◌, Bool, true, false, ◌&&◌, ◌||◌, not, int_le, int_div, List, [], ◌∷◌, ◌++◌, map, filter, length, ℤ, ◌+ℤ◌, ◌-ℤ◌, ◌*ℤ◌, Option, Some, None, if◌then◌else◌}
use Rattle.std.specs.List.{list_any, list_all, flat_map}
use Rattle.op_tables.specs.Operators.{is_zero}
use Rattle.mappings.specs.declared.mapping.AlignDim.{AlignDim}
use Rattle.mappings.specs.declared.mapping.AlignDim.TheVariants.{Linear, At, Every}
use Rattle.hpf_base.specs.declared.refusal.Reason.{Reason}
use Rattle.hpf_base.specs.declared.refusal.Reason.TheVariants as reason
use Rattle.syntax_tree.specs.Expression.{Part, One, Range, Glued, Maybe, Absent, Present}
use Rattle.syntax_tree.specs.Directive.{Alignment, Source, Spread, Target, Placed, Replicated}
use Rattle.expression_rules.specs.Dims.{at_least_none, extent}
use Rattle.expression_rules.specs.Symbols.{Name}
use Rattle.expression_rules.specs.declared.dims.Dim.{Dim}
use Rattle.expression_rules.specs.declared.evaluated.Evaluated.{Evaluated}
use Rattle.expression_rules.specs.declared.evaluated.Evaluated.TheVariants.{Known}
use Rattle.declarations.specs.DeclarationRules.{is_invalid}
use Rattle.declarations.specs.Reasons.{when}
use Rattle.name_table.specs.Directives.{dummies, part_expressions, target_expressions, targets_of}
use Rattle.name_table.specs.Uses.{repeats}
use Rattle.distribution_rules.specs.declared.objects.Object.{Object}
use Rattle.distribution_rules.specs.Dimensions.{passes, is_empty_dim}
use Rattle.distribution_rules.specs.Setting.{Setting, object, object_dims, dims_of, has_kind, is_array_kind, is_mapped_kind, value_in}
use Rattle.alignment_rules.specs.declared.alignment_values.Pair.{Pair}
use Rattle.alignment_rules.specs.declared.alignment_values.TargetValue.{TargetValue}
use Rattle.alignment_rules.specs.declared.alignment_values.TargetValue.TheVariants.{Triplet}
use Rattle.linear_subscripts.specs.LinearForms.{are_same, dummies_in, have_common, has_invalid_part, is_free, is_linear}
use Rattle.alignment_rules.specs.AlignmentValues.{sources, target_values}
use Rattle.alignment_rules.specs.AlignmentEntries.{pairs, entry_of, is_past_limits, is_triplet, at_place}

-- ---- whatever the alignees are

abbrev pub is_known_zero : Evaluated ℤ → Bool
is_known_zero (Known n) = is_zero n
is_known_zero v = false

abbrev pub is_zero_part : Setting → Maybe → Bool
is_zero_part s Absent = false
is_zero_part s (Present e) = is_known_zero (value_in s e)

-- a triplet with the stride 0
abbrev pub has_zero_stride : Setting → Part → Bool
has_zero_stride s (One e) = false
has_zero_stride s (Range first last step) = is_zero_part s step
has_zero_stride s (Glued first step) = is_known_zero (value_in s step)

-- an entry of the target by itself: a subscript is linear in at most one dummy; a triplet names no dummy, and its stride isn't 0; and
-- what names no dummy is constant
abbrev pub part_reasons : Setting → List Name → Part → List Reason
part_reasons s ds (One e) =
    when (not (are_same (dummies_in ds e)) || not (is_linear ds e)) reason.BadDirective
    ++ when (has_invalid_part s ds e) reason.BadConstant
part_reasons s ds p =
    when (not (list_all (is_free ds) (part_expressions p)) || has_zero_stride s p) reason.BadDirective
    ++ when (list_any (λ e. is_invalid (value_in s e)) (part_expressions p)) reason.BadConstant

abbrev pub target_reasons : Setting → List Name → Target → List Reason
target_reasons s ds Replicated = []
target_reasons s ds (Placed p) = part_reasons s ds p

-- a dummy stands in two entries
abbrev pub dummies_of_target : List Name → Target → List Name
dummies_of_target ds t = flat_map (dummies_in ds) (target_expressions t)

abbrev pub overlap : List (List Name) → Bool
overlap [] = false
overlap (xs ∷ xss) = list_any (have_common xs) xss || overlap xss

-- what is wrong with an ALIGN whatever its alignees are: its entries; a dummy that stands twice among the alignee's entries, or in two of
-- the target's; a target that is neither an array nor a template
abbrev pub alignment_reasons : Setting → Alignment → List Reason
alignment_reasons s a =
    flat_map (target_reasons s (dummies a)) (targets_of a.subscripts)
    ++ when (repeats (dummies a) || overlap (map (dummies_of_target (dummies a)) (targets_of a.subscripts))
    || not (has_kind is_mapped_kind (object s a.target))) reason.BadDirective

-- ---- the alignment of an alignee

abbrev pub is_colon : Source → Bool
is_colon Spread = true
is_colon s = false

-- an entry for each dimension of both, and as many `:` as triplets
abbrev pub are_matched : List Source → List (Option Dim) → List TargetValue → List (Option Dim) → Bool
are_matched ss ds vs bs = (length ss == length ds) && (length vs == length bs) && (length (filter is_colon ss) == length (filter is_triplet vs))

-- how many subscripts a triplet stands for (Fortran 95, 6.2.2.3.1)
abbrev pub triplet_count : ℤ → ℤ → ℤ → ℕ
triplet_count first last step = at_least_none (int_div (last -ℤ first +ℤ step) step)

-- a triplet stands for as many subscripts as the dimension that it goes with has; a stride of 0 breaks another rule
abbrev pub has_extent : TargetValue → Dim → Bool
has_extent (Triplet (Some first) (Some last) (Some step)) d = is_zero step || (triplet_count first last step == extent d)
has_extent v d = true

abbrev pub is_unpaired : Pair → Bool
is_unpaired p = passes (λ d. not (has_extent p.value d)) p.along

abbrev pub lies_in : Dim → ℤ → Bool
lies_in d i = int_le d.lower i && int_le i d.upper

-- the first and the last subscript of a dimension are given subscripts inside the target's bounds, and so all between them are
abbrev pub are_ends_in : Dim → ℤ → ℤ → Dim → Bool
are_ends_in b a c d = lies_in b ((a *ℤ d.lower) +ℤ c) && lies_in b ((a *ℤ d.upper) +ℤ c)

abbrev pub is_along_inside : Dim → ℤ → ℤ → Option Dim → Bool
is_along_inside b a c None = true
is_along_inside b a c (Some d) = are_ends_in b a c d

-- the alignee has elements, as far as is known
abbrev pub has_elements : List (Option Dim) → Bool
has_elements ds = not (list_any is_empty_dim ds)

-- every element of an alignee of these dimensions, and every constant subscript, lies inside the bounds of the target's dimension
abbrev pub is_entry_inside : List (Option Dim) → AlignDim → Dim → Bool
is_entry_inside ds (Linear dim a c) b = not (has_elements ds) || is_along_inside b a c (at_place ds dim)
is_entry_inside ds (At v) b = lies_in b v
is_entry_inside ds Every b = true

abbrev pub is_inside : List (Option Dim) → Option AlignDim → Option Dim → Bool
is_inside ds (Some e) (Some b) = is_entry_inside ds e b
is_inside ds e b = true

abbrev pub pair_reasons : List (Option Dim) → Pair → List Reason
pair_reasons ds p =
    when (passes is_past_limits (entry_of p)) reason.Limit
    ++ when (is_unpaired p || not (is_inside ds (entry_of p) p.bounds)) reason.BadDirective

-- what is wrong with the alignment of an object, where these are the entries of both sides and the target's dimensions: it is no array;
-- entries that don't match; or a dimension of the target
abbrev pub entries_reasons : List Source → List TargetValue → List (Option Dim) → Option Object → List Reason
entries_reasons ss vs bs o =
    if not (has_kind is_array_kind o) || not (are_matched ss (object_dims o) vs bs) then reason.BadDirective ∷ []
    else flat_map (pair_reasons (object_dims o)) (pairs ss (object_dims o) vs bs)

abbrev pub alignee_reasons : Setting → Alignment → Name → List Reason
alignee_reasons s a x = entries_reasons (sources a (length (dims_of s x))) (target_values s a) (dims_of s a.target) (object s x)

-- what is wrong with an ALIGN
abbrev pub align_reasons : Setting → Alignment → List Reason
align_reasons s a = alignment_reasons s a ++ flat_map (alignee_reasons s a) a.names
