-- Alignments one after the other in numbers of a limited size say what they do in numbers of any size.
use Rattle.std.proofs.Common.{◌≡◌, ℕ, zero, suc, ◌+◌, ◌*◌, ◌≤◌, ◌<◌, ◌^◌, ℤ, pos, negsuc, ◌+ℤ◌, ◌*ℤ◌, ◌≤ℤ◌, unsigned_abs, Bool, true, false, List, [], ◌∷◌, ◌++◌, map, get_or, length, All, Option, Some, None, refl, sym, ap, subst, ◌∙◌, arith}
use Rattle.std.specs.Prelude.{⊤, ◌&&◌, ◌||◌, not, nat_lt, int_le, if◌then◌else◌}
use Rattle.std.specs.List.{list_any}
use Rattle.std.proofs.lemmas.Int.{ints}
use Rattle.std.proofs.lemmas.Bool.Decides.{nat_tests}
use Rattle.std.proofs.lemmas.Option.{same_Some}
use Rattle.std.proofs.lemmas.List.Elements.{All-head, All-tail}
use lib.Dec.{T}
use lib.Signed.{le_z_yes}
use Rattle.hpf_base.proofs.Integers.{linear_of_linear, within_magnitude}
use Rattle.alignment_rules.specs.declared.limits.TheConstants.{MAX_ALIGN_FACTOR, MAX_ALIGN_OFFSET}
use Rattle.hpf_base.specs.declared.refusal.Reason.{Reason}
use Rattle.hpf_base.specs.declared.refusal.Reason.TheVariants as reason
use Rattle.declarations.specs.Declaring.{least_reason}
use Rattle.declarations.specs.Reasons.{when}
use Rattle.mappings.specs.Alignment.{align_through, composed_align}
use Rattle.mappings.specs.declared.mapping.AlignDim.{AlignDim}
use Rattle.mappings.specs.declared.mapping.AlignDim.TheVariants.{Linear, At, Every}
use Rattle.expression_rules.specs.Symbols.{Name}
use Rattle.expression_rules.specs.declared.dims.Dim.{Dim}
use Rattle.syntax_tree.specs.Directive as directive
use Rattle.distribution_rules.specs.Distributed.{all_or_none, and_more}
use Rattle.distribution_rules.specs.Setting.{Setting, dims_of}
use Rattle.alignment_rules.specs.declared.alignment_values.Alignment.{Alignment}
use Rattle.alignment_rules.specs.declared.alignment_values.Alignment.TheVariants.{Known, PastLimits, Unknown}
use Rattle.alignment_rules.specs.AlignmentEntries.{alignment_of, alignment_with, at_place, entry_of, is_past_limits, pairs}
use Rattle.alignment_rules.specs.AlignmentRules.{has_elements, is_along_inside, is_inside, lies_in}
use Rattle.alignment_rules.specs.AlignmentValues.{sources, target_values}
use Rattle.directive_check.specs.declared.composed_alignments.WideAlign.{WideAlign}
use Rattle.directive_check.specs.declared.composed_alignments.WideAlign.TheVariants as wide
use Rattle.directive_check.specs.MappedObjects.{How, Aligned, Distributed, MappedObject, how_mapped}
use Rattle.directive_check.specs.Chains.{are_inside, chain_entries, chain_entries_from, composed_entries, entries_in, is_composed, is_on_cycle, is_refused, known_entries, known_or_past, limited, own_entries, root_alignment, root_of, target_of, through_target, within_limits}
use Rattle.directive_check.specs.MappingRules.{chain_reasons, is_past, outside_reasons}
use Rattle.directive_check.specs.WideAlignments.{FitsBounds, FitsDim, advanced, are_wide_inside, if_known, is_wide_inside, is_wide_outside, narrow_alignment, narrowed, wide_again, wide_chain, wide_ends_in, wide_from, wide_lies_in, wide_linear, wide_through, widened}
use Rattle.directive_check.proofs.ValidChains.{align_twice}
use Rattle.directive_check.proofs.WideNumbers.{Stands, advanced_stands, magnitude}

-- ---- entries

-- the first and the last subscript of a dimension of the alignee
abbrev pub EndsStand : ℕ → Option ℤ → Option ℤ → ℤ → ℤ → Option Dim → Type 0
EndsStand n first last a b None = ⊤
EndsStand n first last a b (Some d) = Stands n first ((a *ℤ d.lower) +ℤ b) × Stands n last ((a *ℤ d.upper) +ℤ b)

abbrev pub EntryAlong : ℕ → Option Dim → WideAlign → AlignDim → Type 0
EntryAlong n p (wide.Linear dim a b first last) (Linear k c d) = (dim ≡ k) × Stands n a c × Stands n b d × EndsStand n first last c d p
EntryAlong n p (wide.At v) (At z) = Stands n v z
EntryAlong n p wide.Every Every = ⊤
EntryAlong n p w e = ⊥

abbrev pub along : List (Option Dim) → AlignDim → Option Dim
along ds (Linear k c d) = at_place ds k
along ds e = None

abbrev pub EntryStands : ℕ → List (Option Dim) → WideAlign → AlignDim → Type 0
EntryStands n ds w e = EntryAlong n (along ds e) w e

abbrev pub AllStand : ℕ → List (Option Dim) → List WideAlign → List AlignDim → Type 0
AllStand n ds [] [] = ⊤
AllStand n ds (w ∷ ws) (e ∷ es) = EntryStands n ds w e × AllStand n ds ws es
AllStand n ds ws es = ⊥

plus_none : (z : ℤ) → z +ℤ pos 0 ≡ z
plus_none z = omega (arith, ints)

again_stands : (n : ℕ) (ds : List (Option Dim)) (a b : ℤ) (w : WideAlign) (e : AlignDim) → n < 1048576 → unsigned_abs b ≤ 2199023255552 →
    EntryStands (suc n) ds w e → EntryStands n ds (wide_again a b w) (align_through a b e)
again_stands n ds a b (wide.Linear dim c d first last) (Linear k z y) few small h = (
  h.0,
  subst (Stands n (advanced a c (pos 0))) (plus_none (a *ℤ z)) (advanced_stands n a z (pos 0) c few (omega arith) h.1),
  advanced_stands n a y b d few small h.2,
  ends (at_place ds k) h.3,
)
  where
    one : (o : Option ℤ) (i : ℤ) → Stands (suc n) o ((z *ℤ i) +ℤ y) → Stands n (advanced a o b) (((a *ℤ z) *ℤ i) +ℤ ((a *ℤ y) +ℤ b))
    one o i stands = subst (Stands n (advanced a o b)) (sym (linear_of_linear a b z y i)) (advanced_stands n a ((z *ℤ i) +ℤ y) b o few small stands)

    ends : (p : Option Dim) → EndsStand (suc n) first last z y p → EndsStand n (advanced a first b) (advanced a last b) (a *ℤ z) ((a *ℤ y) +ℤ b) p
    ends None h = tt
    ends (Some q) h = (one first q.lower h.0, one last q.upper h.1)
again_stands n ds a b (wide.Linear dim c d first last) (At v) few small h = absurd h
again_stands n ds a b (wide.Linear dim c d first last) Every few small h = absurd h
again_stands n ds a b (wide.At v) (Linear k z y) few small h = absurd h
again_stands n ds a b (wide.At v) (At z) few small h = advanced_stands n a z b v few small h
again_stands n ds a b (wide.At v) Every few small h = absurd h
again_stands n ds a b wide.Every (Linear k z y) few small h = absurd h
again_stands n ds a b wide.Every (At v) few small h = absurd h
again_stands n ds a b wide.Every Every few small h = tt

get_stands : (n : ℕ) (ds : List (Option Dim)) (ws : List WideAlign) (es : List AlignDim) (k : ℕ) → AllStand n ds ws es →
    EntryStands n ds (get_or ws k wide.Every) (get_or es k Every)
get_stands n ds [] [] k h = tt
get_stands n ds [] (e ∷ es) k h = absurd h
get_stands n ds (w ∷ ws) [] k h = absurd h
get_stands n ds (w ∷ ws) (e ∷ es) zero h = h.0
get_stands n ds (w ∷ ws) (e ∷ es) (suc k) h = get_stands n ds ws es k h.1

neither : (p q : Bool) → (p || q) ≡ false → (p ≡ false) × (q ≡ false)
neither true q h = absurd cc
neither false q h = (refl, h)

at_most : (m n : ℕ) → nat_lt m n ≡ false → n ≤ m
at_most m n h = grind (arith, nat_tests)

through_stands : (n : ℕ) (ds : List (Option Dim)) (ws : List WideAlign) (es : List AlignDim) (e : AlignDim) → n < 1048576 → is_past_limits e ≡ false → AllStand (suc n) ds ws es →
    EntryStands n ds (wide_through ws e) (composed_align es e)
through_stands n ds ws es (Linear k a b) few small h =
    again_stands n ds a b (get_or ws k wide.Every) (get_or es k Every) few
    (at_most MAX_ALIGN_OFFSET (unsigned_abs b) (neither (nat_lt MAX_ALIGN_FACTOR (unsigned_abs a)) (nat_lt MAX_ALIGN_OFFSET (unsigned_abs b)) small).1)
    (get_stands (suc n) ds ws es k h)
through_stands n ds ws es (At v) few small h = refl
through_stands n ds ws es Every few small h = tt

all_through : (n : ℕ) (ds : List (Option Dim)) (ws : List WideAlign) (es own : List AlignDim) → n < 1048576 → list_any is_past_limits own ≡ false → AllStand (suc n) ds ws es →
    AllStand n ds (map (wide_through ws) own) (map (composed_align es) own)
all_through n ds ws es [] few small h = tt
all_through n ds ws es (e ∷ own) few small h =
    let two = neither (is_past_limits e) (list_any is_past_limits own) small in
    (through_stands n ds ws es e few two.0 h, all_through n ds ws es own few two.1 h)

-- an alignment by itself
own_stands : (n : ℕ) (ds : List (Option Dim)) (e : AlignDim) → EntryStands n ds (widened ds e) e
own_stands n ds (Linear k a b) = by (at_place ds k)
  where
    by : (p : Option Dim) → EntryAlong n p (wide_linear k a b p) (Linear k a b)
    by None = (refl, refl, refl, tt)
    by (Some d) = (refl, refl, refl, (refl, refl))
own_stands n ds (At v) = refl
own_stands n ds Every = tt

all_own : (n : ℕ) (ds : List (Option Dim)) (es : List AlignDim) → AllStand n ds (map (widened ds) es) es
all_own n ds [] = tt
all_own n ds (e ∷ es) = (own_stands n ds e, all_own n ds es)

-- what is known of an ALIGN by itself is within the limits
known_small : (o : Option (List AlignDim)) (es : List AlignDim) → alignment_with o ≡ Known es → list_any is_past_limits es ≡ false
known_small None es is = absurd cc
known_small (Some fs) es is = by (list_any is_past_limits fs) refl is
  where
    entries : Alignment → List AlignDim
    entries (Known xs) = xs
    entries a = []

    by : (t : Bool) → list_any is_past_limits fs ≡ t → (if t then PastLimits else Known fs) ≡ Known es → list_any is_past_limits es ≡ false
    by true past known = absurd cc
    by false small known = ap (list_any is_past_limits) (sym (ap entries known)) ∙ small

small_of : (s : Setting) (a : directive.Alignment) (x : Name) (es : List AlignDim) → alignment_of s a x ≡ Known es → list_any is_past_limits es ≡ false
small_of s a x es = known_small (all_or_none entry_of (pairs (sources a (length (dims_of s x))) (dims_of s x) (target_values s a) (dims_of s a.target))) es

-- ---- chains

abbrev pub ChainStands : List (Option Dim) → Option (List WideAlign) → Option (List AlignDim) → Type 0
ChainStands ds None None = ⊤
ChainStands ds (Some ws) (Some es) = (n : ℕ) × AllStand n ds ws es
ChainStands ds o e = ⊥

nothing_through : (t : Option Name) (w : Option (List AlignDim)) → None ≡ through_target None t w
nothing_through None w = refl
nothing_through (Some y) w = refl

maps_twice : (es vs us : List AlignDim) → map (composed_align es) (map (composed_align vs) us) ≡ map (composed_align (map (composed_align es) vs)) us
maps_twice es vs [] = refl
maps_twice es vs (u ∷ us) = λ i. align_twice es vs u i ∷ maps_twice es vs us i

through_again : (es vs : List AlignDim) (t : Option Name) (w : Option (List AlignDim)) →
    composed_entries (Some es) (through_target (Some vs) t w) ≡ through_target (Some (map (composed_align es) vs)) t w
through_again es vs None w = refl
through_again es vs (Some y) None = refl
through_again es vs (Some y) (Some us) = ap Some (maps_twice es vs us)

-- what an object's own entries are is within the limits
own_small : (s : Setting) (ms : List MappedObject) (x : Name) (es : List AlignDim) → own_entries s ms x ≡ Some es → list_any is_past_limits es ≡ false
own_small s ms x es = by (how_mapped ms x)
  where
    known : (a : directive.Alignment) (own : Alignment) → alignment_of s a x ≡ own → known_entries own ≡ Some es → list_any is_past_limits es ≡ false
    known a (Known ws) is found = small_of s a x es (is ∙ ap Known (same_Some ws es found))
    known a PastLimits is found = absurd cc
    known a Unknown is found = absurd cc

    unless : (a : directive.Alignment) (refused : Bool) → (if refused then None else known_entries (alignment_of s a x)) ≡ Some es → list_any is_past_limits es ≡ false
    unless a true found = absurd cc
    unless a false found = known a (alignment_of s a x) refl found

    by : (h : Option How) → entries_in s x h ≡ Some es → list_any is_past_limits es ≡ false
    by None found = absurd cc
    by (Some (Distributed d)) found = absurd cc
    by (Some (Aligned a)) found = unless a (is_refused s a) found

pub chain_stands : (n : ℕ) (s : Setting) (ms : List MappedObject) (ds : List (Option Dim)) (ws : List WideAlign) (es : List AlignDim) (y : Name) (z : Option Name) → n ≤ 1048576 →
    AllStand n ds ws es → ChainStands ds (wide_chain n s ms ws y z) (through_target (Some es) z (chain_entries_from n s ms y z))
chain_stands zero s ms ds ws es y None few stand = (zero, stand)
chain_stands zero s ms ds ws es y (Some z) few stand = tt
chain_stands (suc n) s ms ds ws es y None few stand = (suc n, stand)
chain_stands (suc n) s ms ds ws es y (Some z) few stand =
    by (own_entries s ms y) (λ vs is. chain_stands n s ms ds (map (wide_through ws) vs) (map (composed_align es) vs) z (target_of ms z) (omega (arith, few))
    (all_through n ds ws es vs (omega (arith, few)) (own_small s ms y vs is) stand)) refl
  where
    onward : List AlignDim → Option (List WideAlign)
    onward vs = wide_chain n s ms (map (wide_through ws) vs) z (target_of ms z)

    rest : Option (List AlignDim)
    rest = chain_entries_from n s ms z (target_of ms z)

    by : (own : Option (List AlignDim)) →
        ((vs : List AlignDim) → own_entries s ms y ≡ Some vs → ChainStands ds (onward vs) (through_target (Some (map (composed_align es) vs)) (target_of ms z) rest)) →
        own_entries s ms y ≡ own → ChainStands ds (if_known own onward) (composed_entries (Some es) (through_target own (target_of ms z) rest))
    by None next is = subst (λ e. ChainStands ds None (composed_entries (Some es) e)) (nothing_through (target_of ms z) rest) tt
    by (Some vs) next is = subst (ChainStands ds (onward vs)) (sym (through_again es vs (target_of ms z) rest)) (next vs is)

pub from_stands : (n : ℕ) (s : Setting) (ms : List MappedObject) (x : Name) (y : Option Name) → n ≤ 1048576 →
    ChainStands (dims_of s x) (wide_from n s ms x y) (chain_entries_from n s ms x y)
from_stands zero s ms x y few = tt
from_stands (suc n) s ms x None few = tt
from_stands (suc n) s ms x (Some y) few = by (own_entries s ms x)
  where
    by : (own : Option (List AlignDim)) →
        ChainStands (dims_of s x) (if_known own (λ es. wide_chain n s ms (map (widened (dims_of s x)) es) y (target_of ms y)))
        (through_target own (target_of ms y) (chain_entries_from n s ms y (target_of ms y)))
    by None = subst (ChainStands (dims_of s x) None) (nothing_through (target_of ms y) (chain_entries_from n s ms y (target_of ms y))) tt
    by (Some es) = chain_stands n s ms (dims_of s x) (map (widened (dims_of s x)) es) es y (target_of ms y) (omega (arith, few)) (all_own n (dims_of s x) es)

-- ---- within the limits

past_test : (m n : ℕ) → m < 9223372036854775809 → (k : ℕ) → 9223372036854775809 + k * 2199023255552 ≤ n → nat_lt m n ≡ true
past_test m n small k great =
    let more : m < n = omega (arith, small, great) in
    grind (arith, nat_tests)

or_true : (p : Bool) → (p || true) ≡ true
or_true true = refl
or_true false = refl

narrow_stands : (n : ℕ) (p : Option Dim) (w : WideAlign) (e : AlignDim) → EntryAlong n p w e → narrowed w ≡ within_limits e
narrow_stands n p (wide.Linear dim (Some a) (Some b) first last) (Linear k c d) h = λ i. within_limits (Linear (h.0 i) (h.1 i) (h.2 i))
narrow_stands n p (wide.Linear dim None b first last) (Linear k c d) h =
    sym (ap (λ t. if t || nat_lt MAX_ALIGN_OFFSET (unsigned_abs d) then None else Some (Linear k c d)) (past_test MAX_ALIGN_FACTOR (unsigned_abs c) (omega arith) n h.1))
narrow_stands n p (wide.Linear dim (Some a) None first last) (Linear k c d) h =
    sym (ap (λ t. if t then None else Some (Linear k c d))
    (ap (λ t. nat_lt MAX_ALIGN_FACTOR (unsigned_abs c) || t) (past_test MAX_ALIGN_OFFSET (unsigned_abs d) (omega arith) n h.2) ∙ or_true (nat_lt MAX_ALIGN_FACTOR (unsigned_abs c))))
narrow_stands n p (wide.Linear dim a b first last) (At v) h = absurd h
narrow_stands n p (wide.Linear dim a b first last) Every h = absurd h
narrow_stands n p (wide.At v) (Linear k c d) h = absurd h
narrow_stands n p (wide.At None) (At z) h = sym (ap (λ t. if t then None else Some (At z)) (past_test MAX_ALIGN_OFFSET (unsigned_abs z) (omega arith) n h))
narrow_stands n p (wide.At (Some v)) (At z) h = ap (λ y. within_limits (At y)) h
narrow_stands n p (wide.At v) Every h = absurd h
narrow_stands n p wide.Every (Linear k c d) h = absurd h
narrow_stands n p wide.Every (At z) h = absurd h
narrow_stands n p wide.Every Every h = refl

all_narrow : (n : ℕ) (ds : List (Option Dim)) (ws : List WideAlign) (es : List AlignDim) → AllStand n ds ws es → all_or_none narrowed ws ≡ all_or_none within_limits es
all_narrow n ds [] [] h = refl
all_narrow n ds [] (e ∷ es) h = absurd h
all_narrow n ds (w ∷ ws) [] h = absurd h
all_narrow n ds (w ∷ ws) (e ∷ es) h = λ i. and_more (narrow_stands n (along ds e) w e h.0 i) (all_narrow n ds ws es h.1 i)

pub limited_stands : (ds : List (Option Dim)) (o : Option (List WideAlign)) (e : Option (List AlignDim)) → ChainStands ds o e → narrow_alignment o ≡ limited e
limited_stands ds None None h = refl
limited_stands ds None (Some es) h = absurd h
limited_stands ds (Some ws) None h = absurd h
limited_stands ds (Some ws) (Some es) h = ap known_or_past (all_narrow h.0 ds ws es h.1)

-- ---- inside the bounds

both_fail : (d : Dim) (z : ℤ) (k : ℕ) → FitsDim d → 9223372036854775809 + k * 2199023255552 ≤ unsigned_abs z → lies_in d z ≡ false
both_fail d z k fits great = by (int_le d.lower z) (int_le z d.upper) refl refl
  where
    apart : (z : ℤ) → 9223372036854775809 + k * 2199023255552 ≤ unsigned_abs z → d.lower ≤ℤ z → z ≤ℤ d.upper → ⊥
    apart (pos n) great low high = let most = (within_magnitude d.upper (2 ^ 63) (magnitude d.upper fits.1)).1 in omega (arith, ints, great, high, most)
    apart (negsuc n) great low high = let least = (within_magnitude d.lower (2 ^ 63) (magnitude d.lower fits.0)).0 in omega (arith, ints, great, low, least)

    by : (p q : Bool) → int_le d.lower z ≡ p → int_le z d.upper ≡ q → (p && q) ≡ false
    by false q low high = refl
    by true false low high = refl
    by true true low high = absurd (apart z great (le_z_yes (subst T (sym low) tt)) (le_z_yes (subst T (sym high) tt)))

lies_stands : (n : ℕ) (d : Dim) (o : Option ℤ) (z : ℤ) → FitsDim d → Stands n o z → wide_lies_in d o ≡ lies_in d z
lies_stands n d None z fits h = sym (both_fail d z n fits h)
lies_stands n d (Some v) z fits h = ap (lies_in d) h

inside_stands : (n : ℕ) (ds : List (Option Dim)) (w : WideAlign) (e : AlignDim) (b : Option Dim) → FitsBounds b → EntryStands n ds w e → is_wide_inside ds w b ≡ is_inside ds (Some e) b
inside_stands n ds w e None fits h = refl
inside_stands n ds (wide.Linear dim a b first last) (Linear k c d) (Some q) fits h =
    ap (λ m. not (has_elements ds) || wide_ends_in q first last (at_place ds m)) h.0 ∙ ap (λ t. not (has_elements ds) || t) (ends (at_place ds k) h.3)
  where
    ends : (p : Option Dim) → EndsStand n first last c d p → wide_ends_in q first last p ≡ is_along_inside q c d p
    ends None h = refl
    ends (Some r) h = λ i. lies_stands n q first ((c *ℤ r.lower) +ℤ d) fits h.0 i && lies_stands n q last ((c *ℤ r.upper) +ℤ d) fits h.1 i
inside_stands n ds (wide.Linear dim a b first last) (At v) (Some q) fits h = absurd h
inside_stands n ds (wide.Linear dim a b first last) Every (Some q) fits h = absurd h
inside_stands n ds (wide.At v) (Linear k c d) (Some q) fits h = absurd h
inside_stands n ds (wide.At v) (At z) (Some q) fits h = lies_stands n q v z fits h
inside_stands n ds (wide.At v) Every (Some q) fits h = absurd h
inside_stands n ds wide.Every (Linear k c d) (Some q) fits h = absurd h
inside_stands n ds wide.Every (At z) (Some q) fits h = absurd h
inside_stands n ds wide.Every Every (Some q) fits h = refl

pub are_inside_stands : (n : ℕ) (ds : List (Option Dim)) (ws : List WideAlign) (es : List AlignDim) (bs : List (Option Dim)) → All FitsBounds bs → AllStand n ds ws es →
    are_wide_inside ds ws bs ≡ are_inside ds es bs
are_inside_stands n ds [] [] bs fits h = refl
are_inside_stands n ds [] (e ∷ es) bs fits h = absurd h
are_inside_stands n ds (w ∷ ws) [] bs fits h = absurd h
are_inside_stands n ds (w ∷ ws) (e ∷ es) [] fits h = refl
are_inside_stands n ds (w ∷ ws) (e ∷ es) (b ∷ bs) fits h =
    λ i. inside_stands n ds w e b (All-head FitsBounds b bs fits) h.0 i && are_inside_stands n ds ws es bs (All-tail FitsBounds b bs fits) h.1 i

-- ---- what is found of an object among the others

found_stands : (s : Setting) (ms : List MappedObject) (x : Name) (o : Option (List WideAlign)) → length s.names ≤ 1048576 → o ≡ wide_from (length s.names) s ms x (target_of ms x) →
    ChainStands (dims_of s x) o (chain_entries s ms x)
found_stands s ms x o few is = subst (λ w. ChainStands (dims_of s x) w (chain_entries s ms x)) (sym is) (from_stands (length s.names) s ms x (target_of ms x) few)

pub root_found : (s : Setting) (ms : List MappedObject) (x : Name) (o : Option (List WideAlign)) (a : Alignment) → length s.names ≤ 1048576 →
    o ≡ wide_from (length s.names) s ms x (target_of ms x) → a ≡ narrow_alignment o → a ≡ root_alignment s ms x
root_found s ms x o a few is narrow = narrow ∙ limited_stands (dims_of s x) o (chain_entries s ms x) (found_stands s ms x o few is)

outside_stands : (s : Setting) (ms : List MappedObject) (x : Name) (o : Option (List WideAlign)) (e : Option (List AlignDim)) (bs : List (Option Dim)) →
    ChainStands (dims_of s x) o e → bs ≡ dims_of s (root_of s ms x) → All FitsBounds bs → when (is_wide_outside s x o bs) reason.BadDirective ≡ outside_reasons s ms x e
outside_stands s ms x None None bs h is fits = refl
outside_stands s ms x None (Some es) bs h is fits = absurd h
outside_stands s ms x (Some ws) None bs h is fits = absurd h
outside_stands s ms x (Some ws) (Some es) bs h is fits =
    ap (λ t. when (has_elements (dims_of s x) && not t) reason.BadDirective)
    (are_inside_stands h.0 (dims_of s x) ws es bs fits h.1 ∙ ap (are_inside (dims_of s x) es) is)

pub chain_found : (s : Setting) (ms : List MappedObject) (x : Name) (o : Option (List WideAlign)) (a : Alignment) (bs : List (Option Dim)) (cycle past outside : Bool) (found : Option Reason) →
    length s.names ≤ 1048576 → o ≡ wide_from (length s.names) s ms x (target_of ms x) → a ≡ narrow_alignment o → bs ≡ dims_of s (root_of s ms x) → All FitsBounds bs →
    cycle ≡ is_on_cycle s ms x → past ≡ (is_composed ms x && is_past a) → outside ≡ is_wide_outside s x o bs →
    found ≡ least_reason (when cycle reason.BadDirective ++ when past reason.Limit ++ when outside reason.BadDirective) → found ≡ least_reason (chain_reasons s ms x)
chain_found s ms x o a bs cycle past outside found few is narrow ends fits on_cycle is_limit is_outside least_is =
    least_is ∙ (λ i. least_reason (when (on_cycle i) reason.BadDirective ++ when (limit i) reason.Limit ++ beyond i))
  where
    limit : past ≡ (is_composed ms x && is_past (root_alignment s ms x))
    limit = is_limit ∙ ap (λ b. is_composed ms x && is_past b) (root_found s ms x o a few is narrow)

    beyond : when outside reason.BadDirective ≡ outside_reasons s ms x (chain_entries s ms x)
    beyond =
        ap (λ t. when t reason.BadDirective) is_outside
        ∙ outside_stands s ms x o (chain_entries s ms x) bs (found_stands s ms x o few is) ends fits
