-- Of private clauses.
-- What private contracts see of alignments one after the other, in numbers of a limited size. No public clause cites this file.
use Rattle.std.specs.Prelude.{ℕ, zero, suc, Bool, true, false, ◌&&◌, ◌||◌, not, nat_lt, unsigned_abs, ℤ, pos, ◌+ℤ◌, ◌*ℤ◌, List, ◌∷◌, map, slice_index_or, Option, Some, None, IfSome, FitsSigned, if◌then◌else◌}
use Rattle.std.specs.Int.{w64}
use Rattle.op_tables.specs.Operators.{is_zero}
use Rattle.mappings.specs.declared.mapping.AlignDim.{AlignDim}
use Rattle.mappings.specs.declared.mapping.AlignDim.TheVariants.{Linear, At, Every}
use Rattle.expression_rules.specs.Symbols.{Name}
use Rattle.expression_rules.specs.declared.dims.Dim.{Dim}
use Rattle.distribution_rules.specs.Distributed.{all_or_none}
use Rattle.distribution_rules.specs.Setting.{Setting, dims_of}
use Rattle.alignment_rules.specs.declared.alignment_values.Alignment.{Alignment}
use Rattle.alignment_rules.specs.declared.alignment_values.Alignment.TheVariants.{Unknown}
use Rattle.alignment_rules.specs.AlignmentEntries.{at_place}
use Rattle.alignment_rules.specs.AlignmentRules.{has_elements, lies_in}
use Rattle.directive_check.specs.declared.composed_alignments.WideAlign.{WideAlign}
use Rattle.directive_check.specs.declared.composed_alignments.WideAlign.TheVariants as wide
use Rattle.directive_check.specs.MappedObjects.{MappedObject}
use Rattle.directive_check.specs.Chains.{known_or_past, own_entries, target_of, within_limits}

-- so great that it comes back within 64 bits through no chain of as many alignments as there are names, but by a factor of 0
abbrev pub is_far : ℤ → Bool
is_far v = nat_lt 13835058055282163712 (unsigned_abs v)

abbrev pub stays_far : ℤ → ℤ → Option ℤ
stays_far a b = if is_zero a then Some b else None

-- `a * v + b`, where a number that is far is None
abbrev pub advanced : ℤ → Option ℤ → ℤ → Option ℤ
advanced a None b = stays_far a b
advanced a (Some v) b = if is_far v then stays_far a b else Some ((a *ℤ v) +ℤ b)

-- an entry of an alignment by itself
abbrev pub wide_linear : ℕ → ℤ → ℤ → Option Dim → WideAlign
wide_linear dim a b None = wide.Linear dim (Some a) (Some b) None None
wide_linear dim a b (Some d) = wide.Linear dim (Some a) (Some b) (Some ((a *ℤ d.lower) +ℤ b)) (Some ((a *ℤ d.upper) +ℤ b))

abbrev pub widened : List (Option Dim) → AlignDim → WideAlign
widened ds (Linear dim a b) = wide_linear dim a b (at_place ds dim)
widened ds (At v) = wide.At (Some v)
widened ds Every = wide.Every

-- an entry of the next alignment of a chain, through those that lead to it
abbrev pub wide_again : ℤ → ℤ → WideAlign → WideAlign
wide_again a b (wide.Linear dim c d first last) = wide.Linear dim (advanced a c (pos 0)) (advanced a d b) (advanced a first b) (advanced a last b)
wide_again a b (wide.At v) = wide.At (advanced a v b)
wide_again a b wide.Every = wide.Every

abbrev pub wide_through : List WideAlign → AlignDim → WideAlign
wide_through es (Linear dim a b) = wide_again a b (slice_index_or es dim wide.Every)
wide_through es (At v) = wide.At (Some v)
wide_through es Every = wide.Every

abbrev pub if_known : Option (List AlignDim) → (List AlignDim → Option (List WideAlign)) → Option (List WideAlign)
if_known None f = None
if_known (Some es) f = f es

-- from an object on to which these entries lead, where its target is given
abbrev pub wide_chain : ℕ → Setting → List MappedObject → List WideAlign → Name → Option Name → Option (List WideAlign)
wide_chain zero s ms es y None = Some es
wide_chain zero s ms es y (Some z) = None
wide_chain (suc n) s ms es y None = Some es
wide_chain (suc n) s ms es y (Some z) = if_known (own_entries s ms y) (λ ws. wide_chain n s ms (map (wide_through es) ws) z (target_of ms z))

-- from the object itself on
abbrev pub wide_from : ℕ → Setting → List MappedObject → Name → Option Name → Option (List WideAlign)
wide_from zero s ms x y = None
wide_from (suc n) s ms x None = None
wide_from (suc n) s ms x (Some y) = if_known (own_entries s ms x) (λ es. wide_chain n s ms (map (widened (dims_of s x)) es) y (target_of ms y))

-- an entry within the limits
abbrev pub narrowed : WideAlign → Option AlignDim
narrowed (wide.Linear dim (Some a) (Some b) first last) = within_limits (Linear dim a b)
narrowed (wide.At (Some v)) = within_limits (At v)
narrowed wide.Every = Some Every
narrowed e = None

abbrev pub narrow_alignment : Option (List WideAlign) → Alignment
narrow_alignment None = Unknown
narrow_alignment (Some es) = known_or_past (all_or_none narrowed es)

-- every element lies inside the bounds
abbrev pub wide_lies_in : Dim → Option ℤ → Bool
wide_lies_in b None = false
wide_lies_in b (Some v) = lies_in b v

abbrev pub wide_ends_in : Dim → Option ℤ → Option ℤ → Option Dim → Bool
wide_ends_in b first last None = true
wide_ends_in b first last (Some d) = wide_lies_in b first && wide_lies_in b last

abbrev pub is_wide_entry_inside : List (Option Dim) → WideAlign → Dim → Bool
is_wide_entry_inside ds (wide.Linear dim c d first last) b = not (has_elements ds) || wide_ends_in b first last (at_place ds dim)
is_wide_entry_inside ds (wide.At v) b = wide_lies_in b v
is_wide_entry_inside ds wide.Every b = true

abbrev pub is_wide_inside : List (Option Dim) → WideAlign → Option Dim → Bool
is_wide_inside ds e None = true
is_wide_inside ds e (Some b) = is_wide_entry_inside ds e b

abbrev pub are_wide_inside : List (Option Dim) → List WideAlign → List (Option Dim) → Bool
are_wide_inside ds (e ∷ es) (b ∷ bs) = is_wide_inside ds e b && are_wide_inside ds es bs
are_wide_inside ds es bs = true

-- the numbers of bounds fit 64 bits
abbrev pub FitsDim : Dim → Type 0
FitsDim d = FitsSigned w64 d.lower × FitsSigned w64 d.upper

abbrev pub FitsBounds : Option Dim → Type 0
FitsBounds b = IfSome b FitsDim

-- an element lies outside what its alignments end at
abbrev pub is_wide_outside : Setting → Name → Option (List WideAlign) → List (Option Dim) → Bool
is_wide_outside s x None bs = false
is_wide_outside s x (Some es) bs = has_elements (dims_of s x) && not (are_wide_inside (dims_of s x) es bs)
