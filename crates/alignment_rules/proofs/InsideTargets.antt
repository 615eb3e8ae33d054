-- Elements of an alignee inside the bounds of its target.
use Rattle.std.proofs.Common.{◌≡◌, ◌==◌, ℕ, zero, suc, ℤ, pos, negsuc, neg_ℤ, ◌*◌, ◌+ℤ◌, ◌-ℤ◌, ◌*ℤ◌, ◌≤ℤ◌, Bool, true, false, List, [], ◌∷◌, ◌++◌, drop, map, Option, Some, None, refl, sym, ap, subst, ◌∙◌, arith}
use Rattle.std.specs.Prelude.{◌||◌, not, option_map, int_le, slice_index_or, if◌then◌else◌}
use Rattle.std.specs.List.{flat_map, list_any}
use Rattle.std.proofs.Math.IntN.{pos-*ℤ-negsuc, pos-*ℤ-pos, *ℤ_comm}
use Rattle.std.proofs.lemmas.Bool.{false≢true}
use Rattle.std.proofs.lemmas.Bool.Decides.{nat_tests}
use Rattle.std.proofs.lemmas.Int.{ints}
use lib.Dec.{T}
use lib.Signed.{le_z_yes}
use Rattle.mappings.specs.Alignment.{aligned}
use Rattle.mappings.specs.declared.mapping.AlignDim.{AlignDim}
use Rattle.mappings.specs.declared.mapping.AlignDim.TheVariants as align
use Rattle.hpf_base.specs.declared.refusal.Reason.TheVariants as reason
use Rattle.hpf_base.proofs.Integers.{sum-*ℤ}
use Rattle.syntax_tree.specs.Directive.{Source}
use Rattle.declarations.specs.Reasons.{when}
use Rattle.expression_rules.specs.Dims.{at_least_none}
use Rattle.expression_rules.specs.declared.dims.Dim.{Dim}
use Rattle.distribution_rules.specs.Dimensions.{is_empty_dim, passes}
use Rattle.distribution_rules.specs.Distributed.{all_or_none}
use Rattle.alignment_rules.specs.declared.alignment_values.Pair.{Pair}
use Rattle.alignment_rules.specs.declared.alignment_values.TargetValue.{TargetValue}
use Rattle.alignment_rules.specs.AlignedEntries.{AreSubscripts, LiesIn, MapsInto}
use Rattle.alignment_rules.specs.AlignmentEntries.{at_place, dimension_of, entry_of, is_past_limits, is_triplet, pair, pairs_from}
use Rattle.alignment_rules.specs.AlignmentRules.{has_elements, is_along_inside, is_inside, is_unpaired, lies_in, pair_reasons}
use Rattle.alignment_rules.proofs.MovingDims.{made, same_some}
use Rattle.alignment_rules.proofs.PlacedTargets.{both_true, no_or, not_false, second_empty, when_empty}

-- ---- between the ends of a line

abbrev Above : ℤ → ℤ → Type 0
Above l i = (k : ℕ) × (i ≡ l +ℤ pos k)

above : (l i : ℤ) → l ≤ℤ i → Above l i
above l i h = by (i -ℤ l) refl
  where
    by : (d : ℤ) → i -ℤ l ≡ d → Above l i
    by (pos k) e = (k, omega (arith, ints))
    by (negsuc k) e = absurd (omega (arith, ints))

abbrev Within : ℤ → ℤ → ℤ → Type 0
Within low high i = (low ≤ℤ i) × (i ≤ℤ high)

-- between `l * a` and what lies above it
between : (a : ℤ) (low high c p : ℤ) (k m : ℕ) → Within low high (p +ℤ c) → Within low high (((p +ℤ (pos k *ℤ a)) +ℤ (pos m *ℤ a)) +ℤ c) →
    Within low high ((p +ℤ (pos k *ℤ a)) +ℤ c)
between (pos n) low high c p k m first last =
    let q : pos k *ℤ pos n ≡ pos (k * n) = pos-*ℤ-pos k n in
    let r : pos m *ℤ pos n ≡ pos (m * n) = pos-*ℤ-pos m n in
    let f = first.0 in
    let g = last.1 in
    (omega (arith, ints, q, f), omega (arith, ints, q, r, g))
between (negsuc n) low high c p k m first last =
    let q : pos k *ℤ negsuc n ≡ neg_ℤ (pos (k * suc n)) = pos-*ℤ-negsuc k n in
    let r : pos m *ℤ negsuc n ≡ neg_ℤ (pos (m * suc n)) = pos-*ℤ-negsuc m n in
    let f = first.1 in
    let g = last.0 in
    (omega (arith, ints, q, r, g), omega (arith, ints, q, f))

linear_between : (a c l i u low high : ℤ) → l ≤ℤ i → i ≤ℤ u → Within low high ((a *ℤ l) +ℤ c) → Within low high ((a *ℤ u) +ℤ c) → Within low high ((a *ℤ i) +ℤ c)
linear_between a c l i u low high from to first last =
    let k = above l i from in
    let m = above i u to in
    let at_i : a *ℤ i ≡ (l *ℤ a) +ℤ (pos k.0 *ℤ a) = *ℤ_comm a i ∙ ap (λ z. z *ℤ a) k.1 ∙ sum-*ℤ l (pos k.0) a in
    let at_u : a *ℤ u ≡ ((l *ℤ a) +ℤ (pos k.0 *ℤ a)) +ℤ (pos m.0 *ℤ a) =
    *ℤ_comm a u ∙ ap (λ z. z *ℤ a) m.1 ∙ sum-*ℤ i (pos m.0) a ∙ ap (λ z. z +ℤ (pos m.0 *ℤ a)) (*ℤ_comm i a ∙ at_i) in
    subst (λ z. Within low high (z +ℤ c)) (sym at_i)
    (between a low high c (l *ℤ a) k.0 m.0 (subst (λ z. Within low high (z +ℤ c)) (*ℤ_comm a l) first) (subst (λ z. Within low high (z +ℤ c)) at_u last))

-- ---- subscripts of an element

abbrev Along : Option Dim → Option ℤ → Type 0
Along None None = Unit {0}
Along None (Some i) = ⊥
Along (Some d) None = ⊥
Along (Some d) (Some i) = Within d.lower d.upper i

along : (ds : List (Option Dim)) (is : List ℤ) (n : ℕ) → AreSubscripts ds is → Along (at_place ds n) (slice_index_or (map Some is) n None)
along [] [] n h = tt
along [] (i ∷ is) n h = absurd h
along (None ∷ ds) [] n h = absurd h
along (None ∷ ds) (i ∷ is) n h = absurd h
along (Some d ∷ ds) [] n h = absurd h
along (Some d ∷ ds) (i ∷ is) zero h = (h.0, h.1)
along (Some d ∷ ds) (i ∷ is) (suc n) h = along ds is n h.2

holds_one : (z : ℤ) → pos 1 ≤ℤ z → (at_least_none z == 0) ≡ false
holds_one (pos zero) h = absurd (omega (arith, ints))
holds_one (pos (suc n)) h = grind (arith, nat_tests)
holds_one (negsuc n) h = absurd (omega (arith, ints))

pub none_empty : (ds : List (Option Dim)) (is : List ℤ) → AreSubscripts ds is → list_any is_empty_dim ds ≡ false
none_empty [] is h = refl
none_empty (None ∷ ds) is h = by is h
  where
    by : (js : List ℤ) → AreSubscripts (None ∷ ds) js → list_any is_empty_dim (None ∷ ds) ≡ false
    by [] h = absurd h
    by (j ∷ js) h = absurd h
none_empty (Some d ∷ ds) [] h = absurd h
none_empty (Some d ∷ ds) (i ∷ is) h =
    let low : d.lower ≤ℤ i = h.0 in
    let high : i ≤ℤ d.upper = h.1 in
    ap (λ b. b || list_any is_empty_dim ds) (holds_one (d.upper -ℤ d.lower +ℤ pos 1) (omega (arith, ints))) ∙ none_empty ds is h.2

-- ---- entries

le_of : (a b : ℤ) → int_le a b ≡ true → a ≤ℤ b
le_of a b h = le_z_yes (subst T (sym h) tt)

in_bounds : (b : Dim) (i : ℤ) → lies_in b i ≡ true → Within b.lower b.upper i
in_bounds b i h = let both = both_true (int_le b.lower i) (int_le i b.upper) h in (le_of b.lower i both.0, le_of i b.upper both.1)

linear_in : (b : Dim) (a c : ℤ) (o : Option Dim) (i : Option ℤ) → Along o i → is_along_inside b a c o ≡ true → LiesIn (Some b) (option_map (λ n. (a *ℤ n) +ℤ c) i)
linear_in b a c None None h inside = tt
linear_in b a c None (Some i) h inside = absurd h
linear_in b a c (Some d) None h inside = absurd h
linear_in b a c (Some d) (Some i) h inside =
    let both = both_true (lies_in b ((a *ℤ d.lower) +ℤ c)) (lies_in b ((a *ℤ d.upper) +ℤ c)) inside in
    linear_between a c d.lower i d.upper b.lower b.upper h.0 h.1 (in_bounds b _ both.0) (in_bounds b _ both.1)

or_of : (x y : Bool) → x ≡ true → (not x || y) ≡ true → y ≡ true
or_of true y e h = h
or_of false y e h = absurd (false≢true e)

pub entry_in : (ds : List (Option Dim)) (is : List ℤ) → AreSubscripts ds is → (e : AlignDim) (b : Option Dim) → is_inside ds (Some e) b ≡ true → LiesIn b (aligned e (map Some is))
entry_in ds is h e None inside = tt
entry_in ds is h (align.Linear dim a c) (Some b) inside =
    linear_in b a c (at_place ds dim) (slice_index_or (map Some is) dim None) (along ds is dim h)
    (or_of (has_elements ds) (is_along_inside b a c (at_place ds dim)) (ap not (none_empty ds is h)) inside)
entry_in ds is h (align.At v) (Some b) inside = in_bounds b v inside
entry_in ds is h align.Every (Some b) inside = tt

first_empty : {X : Type 0} (xs ys : List X) → xs ++ ys ≡ [] → xs ≡ []
first_empty [] ys h = refl
first_empty (x ∷ xs) ys h = absurd cc

pair_inside : (ds : List (Option Dim)) (p : Pair) (e : AlignDim) → pair_reasons ds p ≡ [] → entry_of p ≡ Some e → is_inside ds (Some e) p.bounds ≡ true
pair_inside ds p e kept is =
    let inside = is_inside ds (entry_of p) p.bounds in
    let past = passes is_past_limits (entry_of p) in
    let rest = when_empty (is_unpaired p || not inside) reason.BadDirective (second_empty (when past reason.Limit) (when (is_unpaired p || not inside) reason.BadDirective) kept) in
    ap (λ o. is_inside ds o p.bounds) (sym is) ∙ not_false inside (no_or (is_unpaired p) (not inside) rest).1

-- every entry gives the element a subscript inside
pub maps_into : (ss : List Source) (ds : List (Option Dim)) (cs : List ℕ) (vs : List TargetValue) (bs : List (Option Dim))
    (es : List AlignDim) (is : List ℤ) → AreSubscripts ds is → flat_map (pair_reasons ds) (pairs_from ss ds cs vs bs) ≡ [] →
    all_or_none entry_of (pairs_from ss ds cs vs bs) ≡ Some es → MapsInto bs es is
maps_into ss ds cs vs [] es is h kept made_of = tt
maps_into ss ds cs [] (b ∷ bs) es is h kept made_of = subst (λ l. MapsInto (b ∷ bs) l is) (same_some [] es made_of) tt
maps_into ss ds cs (v ∷ vs) (b ∷ bs) es is h kept made_of =
    let p = pair v b (dimension_of ss cs v) (at_place ds (dimension_of ss cs v)) in
    let others = pairs_from ss ds (if is_triplet v then drop 1 cs else cs) vs bs in
    let m = made (entry_of p) (all_or_none entry_of others) es made_of in
    subst (λ l. MapsInto (b ∷ bs) l is) m.whole (
      entry_in ds is h m.e b (pair_inside ds p m.e (first_empty (pair_reasons ds p) (flat_map (pair_reasons ds) others) kept) m.of_first),
      maps_into ss ds (if is_triplet v then drop 1 cs else cs) vs bs m.rest is h (second_empty (pair_reasons ds p) (flat_map (pair_reasons ds) others) kept) m.of_others,
    )
