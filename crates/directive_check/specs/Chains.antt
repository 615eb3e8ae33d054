-- Of the claim.
-- Alignments one after the other (HPF 2.0, 3.4): where an object's alignment leads, through the targets that are aligned themselves.
use Rattle.std.specs.Prelude.{ℕ, zero, suc, Bool, true, false, ◌&&◌, ◌||◌, nat_lt, bytes_eq, unsigned_abs, is_some, List, [], ◌∷◌, length, map, Option, Some, None, if◌then◌else◌}
use Rattle.mappings.specs.Alignment.{composed_align}
use Rattle.alignment_rules.specs.declared.limits.TheConstants.{MAX_ALIGN_OFFSET}
use Rattle.hpf_base.specs.declared.refusal.Reason.{Reason}
use Rattle.mappings.specs.declared.mapping.AlignDim.{AlignDim}
use Rattle.mappings.specs.declared.mapping.AlignDim.TheVariants.{Linear, At, Every}
use Rattle.syntax_tree.specs.Directive as directive
use Rattle.expression_rules.specs.Symbols.{Name}
use Rattle.expression_rules.specs.declared.dims.Dim.{Dim}
use Rattle.distribution_rules.specs.Dimensions.{passes}
use Rattle.distribution_rules.specs.Distributed.{all_or_none}
use Rattle.distribution_rules.specs.Setting.{Setting}
use Rattle.alignment_rules.specs.declared.alignment_values.Alignment.{Alignment}
use Rattle.alignment_rules.specs.declared.alignment_values.Alignment.TheVariants.{Known, PastLimits, Unknown}
use Rattle.alignment_rules.specs.AlignmentEntries.{alignment_of, is_past_limits}
use Rattle.alignment_rules.specs.AlignmentRules.{align_reasons, is_inside}
use Rattle.directive_check.specs.MappedObjects.{How, Aligned, MappedObject, how_mapped}

-- the target of an object that is aligned
abbrev pub target_in : Option How → Option Name
target_in (Some (Aligned a)) = Some a.target
target_in h = None

abbrev pub target_of : List MappedObject → Name → Option Name
target_of ms x = target_in (how_mapped ms x)

abbrev pub is_aligned : List MappedObject → Name → Bool
is_aligned ms x = is_some (target_of ms x)

-- an object whose target is aligned itself
abbrev pub is_composed : List MappedObject → Name → Bool
is_composed ms x = passes (is_aligned ms) (target_of ms x)

-- within so many alignments, the first of which leads to what is given, an object is met
abbrev pub meets : ℕ → List MappedObject → Name → Option Name → Bool
meets zero ms x y = false
meets (suc n) ms x None = false
meets (suc n) ms x (Some y) = bytes_eq x y || meets n ms x (target_of ms y)

-- an object that is aligned with itself, through no more others than there are names
abbrev pub is_on_cycle : Setting → List MappedObject → Name → Bool
is_on_cycle s ms x = meets (length s.names) ms x (target_of ms x)

-- what so many alignments lead to at most, from an object whose target is given
abbrev pub root_from : ℕ → List MappedObject → Name → Option Name → Name
root_from zero ms x y = x
root_from (suc n) ms x None = x
root_from (suc n) ms x (Some y) = root_from n ms y (target_of ms y)

-- the object that isn't aligned at which an object's alignments end
abbrev pub root_of : Setting → List MappedObject → Name → Name
root_of s ms x = root_from (length s.names) ms x (target_of ms x)

-- a and b of `a * i + b`, and a constant subscript, are within the limits
abbrev pub within_limits : AlignDim → Option AlignDim
within_limits (Linear dim a b) = if is_past_limits (Linear dim a b) then None else Some (Linear dim a b)
within_limits (At v) = if nat_lt MAX_ALIGN_OFFSET (unsigned_abs v) then None else Some (At v)
within_limits Every = Some Every

abbrev pub has_some : List Reason → Bool
has_some [] = false
has_some (why ∷ whys) = true

-- an ALIGN that breaks a rule by itself
abbrev pub is_refused : Setting → directive.Alignment → Bool
is_refused s a = has_some (align_reasons s a)

abbrev pub known_entries : Alignment → Option (List AlignDim)
known_entries (Known es) = Some es
known_entries a = None

-- what each dimension of its target is given for an element of an object, where its alignment is known and breaks no rule by itself
abbrev pub entries_in : Setting → Name → Option How → Option (List AlignDim)
entries_in s x (Some (Aligned a)) = if is_refused s a then None else known_entries (alignment_of s a x)
entries_in s x h = None

abbrev pub own_entries : Setting → List MappedObject → Name → Option (List AlignDim)
own_entries s ms x = entries_in s x (how_mapped ms x)

-- the same through two alignments, of whatever size the numbers are
abbrev pub composed_entries : Option (List AlignDim) → Option (List AlignDim) → Option (List AlignDim)
composed_entries None ws = None
composed_entries (Some es) None = None
composed_entries (Some es) (Some ws) = Some (map (composed_align es) ws)

-- where the target is aligned itself, and where it isn't
abbrev pub through_target : Option (List AlignDim) → Option Name → Option (List AlignDim) → Option (List AlignDim)
through_target es None ws = es
through_target es (Some y) ws = composed_entries es ws

abbrev pub chain_entries_from : ℕ → Setting → List MappedObject → Name → Option Name → Option (List AlignDim)
chain_entries_from zero s ms x y = None
chain_entries_from (suc n) s ms x None = None
chain_entries_from (suc n) s ms x (Some y) = through_target (own_entries s ms x) (target_of ms y) (chain_entries_from n s ms y (target_of ms y))

-- what each dimension of the object at which an object's alignments end is given. A chain of which an ALIGN breaks a rule by itself says
-- nothing
abbrev pub chain_entries : Setting → List MappedObject → Name → Option (List AlignDim)
chain_entries s ms x = chain_entries_from (length s.names) s ms x (target_of ms x)

abbrev pub known_or_past : Option (List AlignDim) → Alignment
known_or_past None = PastLimits
known_or_past (Some es) = Known es

abbrev pub limited : Option (List AlignDim) → Alignment
limited None = Unknown
limited (Some es) = known_or_past (all_or_none within_limits es)

-- the alignment of an aligned object with what its alignments end at, within the limits
abbrev pub root_alignment : Setting → List MappedObject → Name → Alignment
root_alignment s ms x = limited (chain_entries s ms x)

-- every element of an object of these dimensions lies inside the bounds of what it is aligned with in the end
abbrev pub are_inside : List (Option Dim) → List AlignDim → List (Option Dim) → Bool
are_inside ds (e ∷ es) (b ∷ bs) = is_inside ds (Some e) b && are_inside ds es bs
are_inside ds es bs = true
