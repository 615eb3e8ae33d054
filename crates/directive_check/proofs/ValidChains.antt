-- Mappings through chains of alignments are valid, where each alignment of the chain is.
use Rattle.std.proofs.Common.{◌≡◌, ℕ, zero, suc, ℤ, ◌+ℤ◌, ◌*ℤ◌, List, [], ◌∷◌, length, map, get_or, All, AllPairs, Option, Some, None, refl, sym, ap, subst, ◌∙◌}
use Rattle.std.proofs.lemmas.Option.{same_Some}
use Rattle.mappings.specs.Alignment.{align_through, composed, composed_align, composed_entry}
use Rattle.mappings.specs.Mapping.{IsAlign, IsMapping, MoveApart}
use Rattle.mappings.specs.declared.mapping.AlignDim.{AlignDim}
use Rattle.mappings.specs.declared.mapping.AlignDim.TheVariants.{Linear, At, Every}
use Rattle.mappings.specs.declared.mapping.MapDim.{MapDim}
use Rattle.mappings.specs.declared.mapping.Mapping.{Mapping}
use Rattle.hpf_base.proofs.Integers.{*ℤ_assoc, linear_of_linear}
use Rattle.align_map.proofs.ComposedLaws.{IsMapping-composed}
use Rattle.syntax_tree.specs.Directive as directive
use Rattle.expression_rules.specs.Symbols.{Name}
use Rattle.distribution_rules.specs.Distributed.{all_or_none, and_more}
use Rattle.distribution_rules.specs.Setting.{Setting, dims_of}
use Rattle.alignment_rules.specs.declared.alignment_values.Alignment.{Alignment}
use Rattle.alignment_rules.specs.declared.alignment_values.Alignment.TheVariants.{Known, PastLimits, Unknown}
use Rattle.alignment_rules.specs.AlignmentEntries.{alignment_of, is_past_limits}
use Rattle.directive_check.specs.MappedObjects.{How, Aligned, Distributed, MappedObject, how_mapped}
use Rattle.directive_check.specs.Chains.{chain_entries_from, composed_entries, entries_in, is_refused, known_entries, known_or_past, limited, own_entries, root_from, target_in, target_of, through_target, within_limits}
use Rattle.std.specs.Prelude.{if◌then◌else◌, Bool, true, false, nat_lt, unsigned_abs}
use Rattle.alignment_rules.specs.declared.limits.TheConstants.{MAX_ALIGN_OFFSET}

-- ---- alignments of alignments

-- what two alignments give that are composed
record Both (a w : Option (List AlignDim)) (zs : List AlignDim) : Type 0 where
  es : List AlignDim
  ws : List AlignDim
  first : a ≡ Some es
  second : w ≡ Some ws
  all : map (composed_align es) ws ≡ zs

both : (a w : Option (List AlignDim)) (zs : List AlignDim) → composed_entries a w ≡ Some zs → Both a w zs
both None w zs is = absurd cc
both (Some es) None zs is = absurd cc
both (Some es) (Some ws) zs is = record { es = es; ws = ws; first = refl; second = refl; all = same_Some (map (composed_align es) ws) zs is }

-- what is within the limits stays as it is
unless_past : {A : Type 0} (past : Bool) (x z : A) → (if past then None else Some x) ≡ Some z → x ≡ z
unless_past true x z is = absurd cc
unless_past false x z is = same_Some x z is

within_same : (e z : AlignDim) → within_limits e ≡ Some z → e ≡ z
within_same (Linear dim a b) z is = unless_past (is_past_limits (Linear dim a b)) (Linear dim a b) z is
within_same (At v) z is = unless_past (nat_lt MAX_ALIGN_OFFSET (unsigned_abs v)) (At v) z is
within_same Every z is = same_Some Every z is

record More {B : Type 0} (b : Option B) (bs : Option (List B)) (zs : List B) : Type 0 where
  head : B
  tail : List B
  first : b ≡ Some head
  rest : bs ≡ Some tail
  all : head ∷ tail ≡ zs

more_of : {B : Type 0} (b : Option B) (bs : Option (List B)) (zs : List B) → and_more b bs ≡ Some zs → More b bs zs
more_of None bs zs is = absurd cc
more_of (Some b) None zs is = absurd cc
more_of (Some b) (Some bs) zs is = record { head = b; tail = bs; first = refl; rest = refl; all = same_Some (b ∷ bs) zs is }

all_within : (es zs : List AlignDim) → all_or_none within_limits es ≡ Some zs → es ≡ zs
all_within [] zs is = same_Some [] zs is
all_within (e ∷ es) zs is =
    let m = more_of (within_limits e) (all_or_none within_limits es) zs is in
    (λ i. within_same e m.head m.first i ∷ all_within es m.tail m.rest i) ∙ m.all

known_of : (xs ys : List AlignDim) → Known xs ≡ Known ys → xs ≡ ys
known_of xs ys is = ap entries is
  where
    entries : Alignment → List AlignDim
    entries (Known es) = es
    entries a = []

known_made : (o : Option (List AlignDim)) (zs : List AlignDim) → known_or_past o ≡ Known zs → o ≡ Some zs
known_made None zs is = absurd cc
known_made (Some es) zs is = ap Some (known_of es zs is)

pub limited_known : (o : Option (List AlignDim)) (zs : List AlignDim) → limited o ≡ Known zs → o ≡ Some zs
limited_known None zs is = absurd cc
limited_known (Some es) zs is = ap Some (all_within es zs (known_made (all_or_none within_limits es) zs is))

get_map : {X Y : Type 0} (f : X → Y) (xs : List X) (k : ℕ) (d : X) → get_or (map f xs) k (f d) ≡ f (get_or xs k d)
get_map f [] k d = refl
get_map f (x ∷ xs) zero d = refl
get_map f (x ∷ xs) (suc k) d = get_map f xs k d

-- `a * i + b` of what is composed
through_again : (a b c d : ℤ) (inner : AlignDim) → align_through a b (align_through c d inner) ≡ align_through (a *ℤ c) ((a *ℤ d) +ℤ b) inner
through_again a b c d (Linear dim e f) = (λ i. Linear dim (sym (*ℤ_assoc a c e) i) (sym (linear_of_linear a b c d f) i))
through_again a b c d (At v) = ap At (sym (linear_of_linear a b c d v))
through_again a b c d Every = refl

-- to compose one after the other is to compose with what is composed
align_again : (es : List AlignDim) (a b : ℤ) (w : AlignDim) → align_through a b (composed_align es w) ≡ composed_align es (align_through a b w)
align_again es a b (Linear dim c d) = through_again a b c d (get_or es dim Every)
align_again es a b (At v) = refl
align_again es a b Every = refl

pub align_twice : (es ws : List AlignDim) (e : AlignDim) → composed_align es (composed_align ws e) ≡ composed_align (map (composed_align es) ws) e
align_twice es ws (Linear dim a b) = sym (ap (align_through a b) (get_map (composed_align es) ws dim Every) ∙ align_again es a b (get_or ws dim Every))
align_twice es ws (At v) = refl
align_twice es ws Every = refl

entries_twice : (es ws : List AlignDim) (ms : List MapDim) → map (composed_entry es) (map (composed_entry ws) ms) ≡ map (composed_entry (map (composed_align es) ws)) ms
entries_twice es ws [] = refl
entries_twice es ws (m ∷ ms) =
    λ i. record { line = m.line; grid_dim = m.grid_dim; align = align_twice es ws m.align i } ∷ entries_twice es ws ms i

composed_twice : (r : Mapping) (es ws : List AlignDim) → composed (composed r ws) es ≡ composed r (map (composed_align es) ws)
composed_twice r es ws i = record { grid = r.grid; dims = entries_twice es ws r.dims i }

-- ---- along a chain

-- an alignment of an object of so many dimensions with a target of so many
pub record IsSound (rank target : ℕ) (es : List AlignDim) : Type 0 where
  pub count : length es ≡ target
  pub dims : All (IsAlign rank) es
  pub apart : AllPairs MoveApart es

-- each alignment that is known is valid
abbrev pub AreSound : Setting → List MappedObject → Type 0
AreSound s ms = (y : Name) (a : directive.Alignment) → how_mapped ms y ≡ Some (Aligned a) → (es : List AlignDim) → alignment_of s a y ≡ Known es →
    IsSound (length (dims_of s y)) (length (dims_of s a.target)) es

entries_known : (a : Alignment) (es : List AlignDim) → known_entries a ≡ Some es → a ≡ Known es
entries_known (Known ws) es is = ap Known (same_Some ws es is)
entries_known PastLimits es is = absurd cc
entries_known Unknown es is = absurd cc

own_sound : (s : Setting) (ms : List MappedObject) → AreSound s ms → (x y : Name) (es : List AlignDim) → target_of ms x ≡ Some y → own_entries s ms x ≡ Some es →
    IsSound (length (dims_of s x)) (length (dims_of s y)) es
own_sound s ms sound x y es target own = by (how_mapped ms x) refl target own
  where
    unless : (refused : Bool) (o : Option (List AlignDim)) → (if refused then None else o) ≡ Some es → o ≡ Some es
    unless true o is = absurd cc
    unless false o is = is

    by : (h : Option How) → how_mapped ms x ≡ h → target_in h ≡ Some y → entries_in s x h ≡ Some es → IsSound (length (dims_of s x)) (length (dims_of s y)) es
    by None how target own = absurd cc
    by (Some (Distributed d)) how target own = absurd cc
    by (Some (Aligned a)) how target own =
        subst (λ z. IsSound (length (dims_of s x)) (length (dims_of s z)) es) (same_Some a.target y target)
        (sound x a how es (entries_known (alignment_of s a x) es (unless (is_refused s a) (known_entries (alignment_of s a x)) own)))

pub root_here : (n : ℕ) (ms : List MappedObject) (x : Name) → root_from n ms x None ≡ x
root_here zero ms x = refl
root_here (suc n) ms x = refl

through_one : (s : Setting) (x y : Name) (es : List AlignDim) (r : Mapping) → IsSound (length (dims_of s x)) (length (dims_of s y)) es → IsMapping (length (dims_of s y)) r →
    IsMapping (length (dims_of s x)) (composed r es)
through_one s x y es r sound is = IsMapping-composed r es (length (dims_of s x)) (subst (λ n. IsMapping n r) (sym sound.count) is) sound.apart sound.dims

abbrev Valid : ℕ → Setting → List MappedObject → Name → Option Name → List AlignDim → Mapping → Type 0
Valid n s ms x y zs r = chain_entries_from n s ms x y ≡ Some zs → IsMapping (length (dims_of s (root_from n ms x y))) r → IsMapping (length (dims_of s x)) (composed r zs)

-- an alignee whose target has this target
step : (n : ℕ) (s : Setting) (ms : List MappedObject) (x y : Name) (t : Option Name) (zs : List AlignDim) (r : Mapping) →
    ((es : List AlignDim) → own_entries s ms x ≡ Some es → IsSound (length (dims_of s x)) (length (dims_of s y)) es) → ((ws : List AlignDim) → Valid n s ms y t ws r) →
    through_target (own_entries s ms x) t (chain_entries_from n s ms y t) ≡ Some zs → IsMapping (length (dims_of s (root_from n ms y t))) r →
    IsMapping (length (dims_of s x)) (composed r zs)
step n s ms x y None zs r sound rest is root = through_one s x y zs r (sound zs is) (subst (λ z. IsMapping (length (dims_of s z)) r) (root_here n ms y) root)
step n s ms x y (Some z) zs r sound rest is root =
    let two = both (own_entries s ms x) (chain_entries_from n s ms y (Some z)) zs is in
    subst (IsMapping (length (dims_of s x))) (composed_twice r two.es two.ws ∙ ap (composed r) two.all)
    (through_one s x y two.es (composed r two.ws) (sound two.es two.first) (rest two.ws two.second root))

-- the mapping of what the chain ends at, through the chain
pub chain_valid : (n : ℕ) (s : Setting) (ms : List MappedObject) → AreSound s ms → (x : Name) (y : Option Name) → target_of ms x ≡ y → (zs : List AlignDim) (r : Mapping) →
    Valid n s ms x y zs r
chain_valid zero s ms sound x y target zs r is root = absurd cc
chain_valid (suc n) s ms sound x None target zs r is root = absurd cc
chain_valid (suc n) s ms sound x (Some y) target zs r is root =
    step n s ms x y (target_of ms y) zs r (λ es own. own_sound s ms sound x y es target own) (λ ws. chain_valid n s ms sound y (target_of ms y) refl ws r) is root
