-- Alignments along a chain have an entry for each dimension of what the chain ends at, and none along a dimension that the object hasn't.
use Rattle.std.proofs.Common.{◌≡◌, ℕ, zero, suc, ℤ, Bool, true, false, List, [], ◌∷◌, length, map, nat_lt, All, Option, Some, None, refl, sym, ap, subst, ◌∙◌, arith}
use Rattle.std.specs.Prelude.{slice_index_or, unsigned_abs, if◌then◌else◌}
use Rattle.std.specs.List.{AllByRecursion}
use Rattle.std.proofs.lemmas.List.{length-map}
use Rattle.alignment_rules.specs.declared.limits.TheConstants.{MAX_ALIGN_OFFSET}
use Rattle.mappings.specs.Alignment.{align_through, composed_align}
use Rattle.mappings.specs.Mapping.{IsAlign}
use Rattle.mappings.specs.declared.mapping.AlignDim.{AlignDim}
use Rattle.mappings.specs.declared.mapping.AlignDim.TheVariants.{Linear, At, Every}
use Rattle.expression_rules.specs.Symbols.{Name}
use Rattle.distribution_rules.specs.Distributed.{all_or_none, and_more}
use Rattle.distribution_rules.specs.Setting.{Setting, dims_of}
use Rattle.alignment_rules.specs.declared.alignment_values.Alignment.{Alignment}
use Rattle.alignment_rules.specs.declared.alignment_values.Alignment.TheVariants.{Known}
use Rattle.alignment_rules.specs.AlignmentEntries.{is_past_limits}
use Rattle.directive_check.specs.MappedObjects.{MappedObject}
use Rattle.directive_check.specs.Chains.{chain_entries_from, composed_entries, known_or_past, limited, own_entries, root_alignment, root_from, root_of, target_of, through_target, within_limits}
use Rattle.known_mappings.specs.StartMappings.{IsWhole}
use Rattle.name_table.proofs.Tests.{none_some, some_same}

pub of_all : {A : Type 0} (P : A → Type 0) (xs : List A) → All P xs → AllByRecursion P xs
of_all P [] h = tt
of_all P (x ∷ xs) h = (h 0 x (omega arith), of_all P xs (λ k d within. h (suc k) d (omega (arith, within))))

-- ---- composed entries

through_along : (rank : ℕ) (a b : ℤ) (inner : AlignDim) → IsAlign rank inner → IsAlign rank (align_through a b inner)
through_along rank a b (Linear dim c d) h = h
through_along rank a b (At v) h = tt
through_along rank a b Every h = tt

at_along : (rank : ℕ) (es : List AlignDim) (k : ℕ) → AllByRecursion (IsAlign rank) es → IsAlign rank (slice_index_or es k Every)
at_along rank [] k h = tt
at_along rank (e ∷ es) zero h = h.0
at_along rank (e ∷ es) (suc k) h = at_along rank es k h.1

align_along : (rank : ℕ) (es : List AlignDim) (w : AlignDim) → AllByRecursion (IsAlign rank) es → IsAlign rank (composed_align es w)
align_along rank es (Linear dim a b) h = through_along rank a b (slice_index_or es dim Every) (at_along rank es dim h)
align_along rank es (At v) h = tt
align_along rank es Every h = tt

composed_along : (rank : ℕ) (es ws : List AlignDim) → AllByRecursion (IsAlign rank) es → AllByRecursion (IsAlign rank) (map (composed_align es) ws)
composed_along rank es [] h = tt
composed_along rank es (w ∷ ws) h = (align_along rank es w h, composed_along rank es ws h)

-- ---- what is within the limits stays as it is

unless_past : (past : Bool) (x z : AlignDim) → (if past then None else Some x) ≡ Some z → x ≡ z
unless_past true x z is = absurd (none_some z is)
unless_past false x z is = some_same x z is

within_same : (e z : AlignDim) → within_limits e ≡ Some z → e ≡ z
within_same (Linear dim a b) z is = unless_past (is_past_limits (Linear dim a b)) (Linear dim a b) z is
within_same (At v) z is = unless_past (nat_lt MAX_ALIGN_OFFSET (unsigned_abs v)) (At v) z is
within_same Every z is = some_same Every z is

all_within : (es zs : List AlignDim) → all_or_none within_limits es ≡ Some zs → es ≡ zs
all_within [] zs is = some_same [] zs is
all_within (e ∷ es) zs is = by (within_limits e) (all_or_none within_limits es) is (within_same e) (all_within es)
  where
    by : (o : Option AlignDim) (os : Option (List AlignDim)) → and_more o os ≡ Some zs → ((z : AlignDim) → o ≡ Some z → e ≡ z) → ((ys : List AlignDim) → os ≡ Some ys → es ≡ ys) →
        e ∷ es ≡ zs
    by None os is first rest = absurd (none_some zs is)
    by (Some z) None is first rest = absurd (none_some zs is)
    by (Some z) (Some ys) is first rest = (λ i. first z refl i ∷ rest ys refl i) ∙ some_same (z ∷ ys) zs is

known_same : (xs ys : List AlignDim) → Known xs ≡ Known ys → xs ≡ ys
known_same xs ys is = ap entries is
  where
    entries : Alignment → List AlignDim
    entries (Known es) = es
    entries a = []

limited_same : (o : Option (List AlignDim)) (zs : List AlignDim) → limited o ≡ Known zs → o ≡ Some zs
limited_same None zs is = absurd cc
limited_same (Some es) zs is = ap Some (by (all_or_none within_limits es) refl is)
  where
    by : (o : Option (List AlignDim)) → all_or_none within_limits es ≡ o → known_or_past o ≡ Known zs → es ≡ zs
    by None all is = absurd cc
    by (Some ys) all is = all_within es ys all ∙ known_same ys zs is

-- ---- along a chain

module _ (s : Setting) (ms : List MappedObject)
    (own : (x y : Name) → target_of ms x ≡ Some y → (es : List AlignDim) → own_entries s ms x ≡ Some es → IsWhole (length (dims_of s x)) (length (dims_of s y)) es) where
  abbrev IsChainWhole : ℕ → Name → Option Name → Type 0
  IsChainWhole n x y = (es : List AlignDim) → chain_entries_from n s ms x y ≡ Some es → IsWhole (length (dims_of s x)) (length (dims_of s (root_from n ms x y))) es

  root_here : (n : ℕ) (x : Name) → root_from n ms x None ≡ x
  root_here zero x = refl
  root_here (suc n) x = refl

  -- an alignee whose target is aligned itself
  composed_whole : (x y : Name) (target : ℕ) → target_of ms x ≡ Some y → (o p : Option (List AlignDim)) → own_entries s ms x ≡ o →
      ((ws : List AlignDim) → p ≡ Some ws → IsWhole (length (dims_of s y)) target ws) → (es : List AlignDim) → composed_entries o p ≡ Some es → IsWhole (length (dims_of s x)) target es
  composed_whole x y target is None p first rest es all = absurd (none_some es all)
  composed_whole x y target is (Some vs) None first rest es all = absurd (none_some es all)
  composed_whole x y target is (Some vs) (Some ws) first rest es all =
      subst (IsWhole (length (dims_of s x)) target) (some_same (map (composed_align vs) ws) es all)
      (record {
        each = length-map ws (composed_align vs) ∙ (rest ws refl).each;
        along = composed_along (length (dims_of s x)) vs ws (own x y is vs first).along;
      })

  chain_whole : (n : ℕ) (x y : Name) → target_of ms x ≡ Some y → IsChainWhole n x (Some y)
  chain_whole zero x y is es all = absurd (none_some es all)
  chain_whole (suc n) x y is es all = by (target_of ms y) refl all (chain_whole n y)
    where
      by : (z : Option Name) → target_of ms y ≡ z → through_target (own_entries s ms x) z (chain_entries_from n s ms y z) ≡ Some es →
          ((z : Name) → target_of ms y ≡ Some z → IsChainWhole n y (Some z)) → IsWhole (length (dims_of s x)) (length (dims_of s (root_from n ms y z))) es
      by None end all more = subst (λ r. IsWhole (length (dims_of s x)) (length (dims_of s r)) es) (sym (root_here n y)) (own x y is es all)
      by (Some z) next all more =
          composed_whole x y (length (dims_of s (root_from n ms y (Some z)))) is (own_entries s ms x) (chain_entries_from n s ms y (Some z)) refl (more z next) es all

  -- with what its alignments end at
  pub root_whole : (x y : Name) → target_of ms x ≡ Some y → (es : List AlignDim) → root_alignment s ms x ≡ Known es →
      IsWhole (length (dims_of s x)) (length (dims_of s (root_of s ms x))) es
  root_whole x y is es known =
      subst (λ t. IsWhole (length (dims_of s x)) (length (dims_of s (root_from (length s.names) ms x t))) es) (sym is)
      (chain_whole (length s.names) x y is es (subst (λ t. chain_entries_from (length s.names) s ms x t ≡ Some es) is (limited_same _ es known)))
