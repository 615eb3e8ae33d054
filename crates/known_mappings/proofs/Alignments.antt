-- The alignment of an alignee is known and within the limits, where its ALIGN breaks no rule.
use Rattle.std.proofs.Common.{◌≡◌, ◌==◌, ◌<◌, ◌+◌, ◌≤ℤ◌, ℕ, zero, suc, ℤ, pos, negsuc, Bool, true, false, true≢false, List, [], ◌∷◌, ◌++◌, drop, filter, length, nat_lt, replicate, Option, Some, None, refl, sym, ap, subst, ◌∙◌, arith}
use Rattle.std.specs.Bool.{⊤}
use Rattle.std.specs.Prelude.{◌&&◌, ◌||◌, not, int_le, unsigned_abs, if◌then◌else◌}
use Rattle.std.specs.List.{AllByRecursion, flat_map, list_all, list_any}
use Rattle.std.proofs.lemmas.Bool.{eqb-true}
use Rattle.std.proofs.lemmas.Bool.Decides.{nat_tests}
use Rattle.std.proofs.lemmas.Int.{ints}
use lib.Dec.{T}
use lib.Signed.{le_z_yes}
use Rattle.hpf_base.specs.declared.limits.TheConstants.{MAX_BOUND}
use Rattle.alignment_rules.specs.declared.limits.TheConstants.{MAX_ALIGN_OFFSET}
use Rattle.hpf_base.specs.declared.refusal.Reason.TheVariants as reason
use Rattle.mappings.specs.declared.mapping.AlignDim.{AlignDim}
use Rattle.mappings.specs.declared.mapping.AlignDim.TheVariants.{Linear, At, Every}
use Rattle.syntax_tree.specs.Directive as directive
use Rattle.syntax_tree.specs.Directive.{Source, Dummy, Spread, Collapsed, Target, Placed, Replicated}
use Rattle.syntax_tree.specs.Expression.{Expression, Part, One, Range, Glued, Maybe, Absent, Present}
use Rattle.expression_rules.specs.Symbols.{Name, SymbolTable, find}
use Rattle.expression_rules.specs.declared.dims.Dim.{Dim}
use Rattle.expression_rules.specs.declared.symbols.Symbol.{Symbol}
use Rattle.declarations.specs.Declarations.{if_known, is_too_far}
use Rattle.declarations.specs.DeclarationRules.{is_invalid}
use Rattle.declarations.specs.Reasons.{when}
use Rattle.name_table.specs.Directives.{dummies, maybe_expressions, part_expressions, target_expressions, targets_of}
use Rattle.name_table.specs.KnownSymbols.{is_known}
use Rattle.distribution_rules.specs.declared.objects.Object.{Object}
use Rattle.distribution_rules.specs.Dimensions.{passes}
use Rattle.distribution_rules.specs.Distributed.{all_or_none, and_more}
use Rattle.distribution_rules.specs.Setting.{Setting, dims_of, has_kind, is_array_kind, object, object_dims, value_in}
use Rattle.linear_subscripts.specs.LinearForms.{are_same, dummies_in, has_invalid_part, is_free, is_linear}
use Rattle.alignment_rules.specs.declared.alignment_values.Alignment.{Alignment}
use Rattle.alignment_rules.specs.declared.alignment_values.Alignment.TheVariants.{Known, PastLimits}
use Rattle.alignment_rules.specs.declared.alignment_values.Pair.{Pair}
use Rattle.alignment_rules.specs.declared.alignment_values.TargetValue.{TargetValue}
use Rattle.alignment_rules.specs.declared.alignment_values.TargetValue.TheVariants as value
use Rattle.alignment_rules.specs.AlignmentEntries.{alignment_of, alignment_with, at_place, colons_from, dimension_of, entry_of, is_past_limits, is_triplet, pair, pairs, pairs_from}
use Rattle.alignment_rules.specs.AlignmentRules.{alignee_reasons, alignment_reasons, are_matched, has_zero_stride, is_colon, is_inside, is_unpaired, pair_reasons, target_reasons}
use Rattle.alignment_rules.specs.AlignmentValues.{full, list_or, lower_of, part_or, sources, target_value, target_values, targets, values_from}
use Rattle.directive_check.specs.Chains.{within_limits}
use Rattle.name_table.proofs.Tests.{HasValue, all_empty, all_split, both, empties, fails, holds, neither, no_value, none_pass}
use Rattle.known_mappings.proofs.DirectiveValues.{has_value}
use Rattle.known_mappings.proofs.LinearForms.{linear_known}
use Rattle.known_mappings.proofs.Objects.{AreNear, IsNear, IsRight, IsTyped, found_right}

-- ---- what stands for the dimensions of the target

abbrev IsValueKnown : TargetValue → Type 0
IsValueKnown value.Every = ⊤
IsValueKnown (value.Subscript x l) = HasValue l
IsValueKnown (value.Triplet first last step) = HasValue first × HasValue step

near_lower : (b : Option Dim) → IsNear b → HasValue (lower_of b)
near_lower None h = absurd h
near_lower (Some d) h = refl

module _ (s : Setting) (known : (x : Name) (a : Symbol) → find x s.names ≡ Some a → is_known a ≡ true) (u : SymbolTable) (ds : List Name) where
  abbrev IsNumber : Expression → Type 0
  IsNumber e = HasValue (if_known (value_in s e))

  numbers : (es : List Expression) → AllByRecursion (IsTyped u) es → AllByRecursion (λ e. is_invalid (value_in s e) ≡ false) es → AllByRecursion IsNumber es
  numbers [] h valid = tt
  numbers (e ∷ es) h valid = (has_value s.grid s.names u known e valid.0 h.0, numbers es h.1 valid.1)

  -- an entry of the target that breaks no rule
  abbrev IsEntry : Target → Type 0
  IsEntry t = AllByRecursion (IsTyped u) (target_expressions t) × (target_reasons s ds t ≡ [])

  part_numbers : (p : Part) → AllByRecursion (IsTyped u) (part_expressions p) →
      (when (not (list_all (is_free ds) (part_expressions p)) || has_zero_stride s p) reason.BadDirective
      ++ when (list_any (λ e. is_invalid (value_in s e)) (part_expressions p)) reason.BadConstant) ≡ [] → AllByRecursion IsNumber (part_expressions p)
  part_numbers p typed none = numbers (part_expressions p) typed (none_pass (λ e. is_invalid (value_in s e)) (part_expressions p) (fails _ reason.BadConstant (empties _ _ none).1))

  part_known : (other : Option ℤ) (m : Maybe) → HasValue other → AllByRecursion IsNumber (maybe_expressions m) → HasValue (part_or s other m)
  part_known other Absent h g = h
  part_known other (Present e) h g = g.0

  value_known : (b : Option Dim) (t : Target) → IsNear b → IsEntry t → IsValueKnown (target_value s ds b t)
  value_known b Replicated near h = tt
  value_known b (Placed (One e)) near h =
      let two = empties (when (not (are_same (dummies_in ds e)) || not (is_linear ds e)) reason.BadDirective) _ h.1 in
      let rules = neither (not (are_same (dummies_in ds e))) (not (is_linear ds e)) (fails _ reason.BadDirective two.0) in
      linear_known s known u ds e h.0.0 (holds (is_linear ds e) rules.1) (fails (has_invalid_part s ds e) reason.BadConstant two.1)
  value_known b (Placed (Range first last step)) near h =
      let own = part_numbers (Range first last step) h.0 h.1 in
      let two = all_split IsNumber (maybe_expressions first ++ maybe_expressions last) (maybe_expressions step) own in (
        part_known (lower_of b) first (near_lower b near) (all_split IsNumber (maybe_expressions first) (maybe_expressions last) two.0).0,
        part_known (Some (pos 1)) step refl two.1,
      )
  value_known b (Placed (Glued first step)) near h =
      let own = part_numbers (Glued first step) h.0 h.1 in
      let two = all_split IsNumber (maybe_expressions first) (step ∷ []) own in
      (part_known (lower_of b) first (near_lower b near) two.0, two.1.0)

  values_counted : (bs : List (Option Dim)) (ts : List Target) → length (values_from s ds bs ts) ≡ length ts
  values_counted bs [] = refl
  values_counted bs (t ∷ ts) = ap suc (values_counted (drop 1 bs) ts)

  values_known : (bs : List (Option Dim)) (ts : List Target) → length ts ≡ length bs → AreNear bs → AllByRecursion IsEntry ts → AllByRecursion IsValueKnown (values_from s ds bs ts)
  values_known bs [] same near h = tt
  values_known [] (t ∷ ts) same near h = absurd (omega (arith, same))
  values_known (b ∷ bs) (t ∷ ts) same near h = (value_known b t near.0 h.0, values_known bs ts (omega (arith, same)) near.1 h.1)

  full_entries : (n : ℕ) → AllByRecursion IsEntry (replicate n full)
  full_entries zero = tt
  full_entries (suc n) = ((tt, refl), full_entries n)

  entries_good : (ts : List Target) → AllByRecursion (IsTyped u) (flat_map target_expressions ts) → flat_map (target_reasons s ds) ts ≡ [] → AllByRecursion IsEntry ts
  entries_good [] h none = tt
  entries_good (t ∷ ts) h none =
      let typed = all_split (IsTyped u) (target_expressions t) (flat_map target_expressions ts) h in
      let two = empties (target_reasons s ds t) _ none in
      ((typed.0, two.0), entries_good ts typed.1 two.1)

  targets_good : (n : ℕ) (ts : Option (List Target)) → AllByRecursion (IsTyped u) (flat_map target_expressions (targets_of ts)) →
      flat_map (target_reasons s ds) (targets_of ts) ≡ [] → AllByRecursion IsEntry (list_or full n ts)
  targets_good n None h none = full_entries n
  targets_good n (Some ts) h none = entries_good ts h none

-- ---- entries of the alignment

at_near : (ds : List (Option Dim)) (k : ℕ) → AreNear ds → k < length ds → IsNear (at_place ds k)
at_near [] k near less = absurd (omega (arith, less))
at_near (d ∷ ds) zero near less = near.0
at_near (d ∷ ds) (suc k) near less = at_near ds k near.1 (omega (arith, less))

-- the dimensions of the alignee with `:`
colons_near : (P : ℕ → Type 0) (n : ℕ) (ss : List Source) → ((k : ℕ) → k < length ss → P (n + k)) → AllByRecursion P (colons_from n ss)
colons_near P n [] h = tt
colons_near P n (Spread ∷ ss) h = (
  subst P (let same : n + 0 ≡ n = omega arith in same) (h 0 (omega arith)),
  colons_near P (suc n) ss (λ k less. subst P (let same : n + suc k ≡ suc n + k = omega arith in same)
      (h (suc k) (omega (arith, less)))),
)
colons_near P n (Dummy x ∷ ss) h = colons_near P (suc n) ss (λ k less. subst P (let same : n + suc k ≡ suc n + k = omega arith in same) (h (suc k) (omega (arith, less))))
colons_near P n (Collapsed ∷ ss) h = colons_near P (suc n) ss (λ k less. subst P (let same : n + suc k ≡ suc n + k = omega arith in same) (h (suc k) (omega (arith, less))))

colons_counted : (n : ℕ) (ss : List Source) → length (colons_from n ss) ≡ length (filter is_colon ss)
colons_counted n [] = refl
colons_counted n (Spread ∷ ss) = ap suc (colons_counted (suc n) ss)
colons_counted n (Dummy x ∷ ss) = colons_counted (suc n) ss
colons_counted n (Collapsed ∷ ss) = colons_counted (suc n) ss

le_of : (a b : ℤ) → int_le a b ≡ true → a ≤ℤ b
le_of a b h = le_z_yes (subst T (sym h) tt)

-- between bounds within the limits
between_near : (l u v : ℤ) → is_too_far (Some l) ≡ false → is_too_far (Some u) ≡ false → l ≤ℤ v → v ≤ℤ u → nat_lt MAX_ALIGN_OFFSET (unsigned_abs v) ≡ false
between_near l (pos m) (pos n) a b low high = let less : pos n ≤ℤ pos m = high in let most : nat_lt MAX_BOUND m ≡ false = b in grind (arith, nat_tests, ints, less, most)
between_near l (negsuc m) (pos n) a b low high = absurd (omega (arith, ints, high))
between_near (negsuc m) u (negsuc n) a b low high = let less : negsuc m ≤ℤ negsuc n = low in let most : nat_lt MAX_BOUND (suc m) ≡ false = a in grind (arith, nat_tests, ints, less, most)
between_near (pos m) u (negsuc n) a b low high = absurd (omega (arith, ints, low))

-- an entry that is made, within the limits
record IsMade (p : Pair) : Type 0 where
  entry : AlignDim
  is : entry_of p ≡ Some entry
  within : HasValue (within_limits entry)
  near : is_past_limits entry ≡ false

not_past : (b : Bool) (e : AlignDim) → b ≡ false → HasValue (if b then None else Some e)
not_past true e h = absurd (true≢false h)
not_past false e h = refl

made : (ds : List (Option Dim)) (p : Pair) (e : AlignDim) → entry_of p ≡ Some e → IsNear p.bounds → pair_reasons ds p ≡ [] → IsMade p
made ds p e is near none = record { entry = e; is = is; within = within e p.bounds near past inside; near = past }
  where
    two : (when (passes is_past_limits (entry_of p)) reason.Limit ≡ []) × (when (is_unpaired p || not (is_inside ds (entry_of p) p.bounds)) reason.BadDirective ≡ [])
    two = empties _ _ none

    past : is_past_limits e ≡ false
    past = sym (ap (passes is_past_limits) is) ∙ fails (passes is_past_limits (entry_of p)) reason.Limit two.0

    inside : is_inside ds (Some e) p.bounds ≡ true
    inside = sym (ap (λ o. is_inside ds o p.bounds) is)
        ∙ holds (is_inside ds (entry_of p) p.bounds) (neither (is_unpaired p) (not (is_inside ds (entry_of p) p.bounds)) (fails _ reason.BadDirective two.1)).1

    within : (e : AlignDim) (b : Option Dim) → IsNear b → is_past_limits e ≡ false → is_inside ds (Some e) b ≡ true → HasValue (within_limits e)
    within (Linear dim a c) b near past inside = not_past (is_past_limits (Linear dim a c)) (Linear dim a c) past
    within (At v) None near past inside = absurd near
    within (At v) (Some b) near past inside =
        let ends = both (int_le b.lower v) (int_le v b.upper) inside in
        not_past (nat_lt MAX_ALIGN_OFFSET (unsigned_abs v)) (At v) (between_near b.lower b.upper v near.0 near.1 (le_of b.lower v ends.0) (le_of v b.upper ends.1))
    within Every b near past inside = refl

-- a triplet takes a `:`
left_over : (v : TargetValue) (vs : List TargetValue) (cs : List ℕ) → length (filter is_triplet (v ∷ vs)) ≡ length cs →
    length (filter is_triplet vs) ≡ length (if is_triplet v then drop 1 cs else cs)
left_over value.Every vs cs h = h
left_over (value.Subscript x l) vs cs h = h
left_over (value.Triplet a b c) vs [] h = absurd (let e : suc (length (filter is_triplet vs)) ≡ 0 = h in omega (arith, e))
left_over (value.Triplet a b c) vs (k ∷ cs) h = let e : suc (length (filter is_triplet vs)) ≡ suc (length cs) = h in omega (arith, e)

rest_near : (P : ℕ → Type 0) (v : TargetValue) (cs : List ℕ) → AllByRecursion P cs → AllByRecursion P (if is_triplet v then drop 1 cs else cs)
rest_near P value.Every cs h = h
rest_near P (value.Subscript x l) cs h = h
rest_near P (value.Triplet a b c) [] h = tt
rest_near P (value.Triplet a b c) (k ∷ cs) h = h.1

pair_entry : (ss : List Source) (ds : List (Option Dim)) (cs : List ℕ) (v : TargetValue) (vs : List TargetValue) (b : Option Dim) → IsValueKnown v →
    length (filter is_triplet (v ∷ vs)) ≡ length cs → AllByRecursion (λ c. IsNear (at_place ds c)) cs →
    (e : AlignDim) × (entry_of (pair v b (dimension_of ss cs v) (at_place ds (dimension_of ss cs v))) ≡ Some e)
pair_entry ss ds cs value.Every vs b h counted near = (Every, refl)
pair_entry ss ds cs (value.Subscript x None) vs b h counted near = absurd (no_value h)
pair_entry ss ds cs (value.Subscript x (Some l)) vs b h counted near = (_, refl)
pair_entry ss ds cs (value.Triplet None last step) vs b h counted near = absurd (no_value h.0)
pair_entry ss ds cs (value.Triplet (Some first) last None) vs b h counted near = absurd (no_value h.1)
pair_entry ss ds [] (value.Triplet (Some first) last (Some step)) vs b h counted near =
    absurd (let e : suc (length (filter is_triplet vs)) ≡ 0 = counted in omega (arith, e))
pair_entry ss ds (c ∷ cs) (value.Triplet (Some first) last (Some step)) vs b h counted near = by (at_place ds c) near.0
  where
    by : (d : Option Dim) → IsNear d → (e : AlignDim) × (entry_of (pair (value.Triplet (Some first) last (Some step)) b c d) ≡ Some e)
    by None near = absurd near
    by (Some d) near = (_, refl)

pairs_made : (ss : List Source) (ds : List (Option Dim)) (cs : List ℕ) (vs : List TargetValue) (bs : List (Option Dim)) → AllByRecursion IsValueKnown vs →
    length (filter is_triplet vs) ≡ length cs → AllByRecursion (λ c. IsNear (at_place ds c)) cs → length vs ≡ length bs → AreNear bs →
    AllByRecursion (λ p. pair_reasons ds p ≡ []) (pairs_from ss ds cs vs bs) → AllByRecursion IsMade (pairs_from ss ds cs vs bs)
pairs_made ss ds cs [] bs h counted near same all none = tt
pairs_made ss ds cs (v ∷ vs) [] h counted near same all none = absurd (omega (arith, same))
pairs_made ss ds cs (v ∷ vs) (b ∷ bs) h counted near same all none =
    let e = pair_entry ss ds cs v vs b h.0 counted near in (
      made ds (pair v b (dimension_of ss cs v) (at_place ds (dimension_of ss cs v))) e.0 e.1 all.0 none.0,
      pairs_made ss ds (if is_triplet v then drop 1 cs else cs) vs bs h.1 (left_over v vs cs counted) (rest_near (λ c. IsNear (at_place ds c)) v cs near) (omega (arith, same)) all.1 none.1,
    )

-- ---- an alignment

abbrev pub AreWithin : List AlignDim → Type 0
AreWithin es = AllByRecursion (λ e. HasValue (within_limits e)) es

record AreMade (ps : List Pair) : Type 0 where
  entries : List AlignDim
  are : all_or_none entry_of ps ≡ Some entries
  within : AreWithin entries
  near : list_any is_past_limits entries ≡ false

all_made : (ps : List Pair) → AllByRecursion IsMade ps → AreMade ps
all_made [] h = record { entries = []; are = refl; within = tt; near = refl }
all_made (p ∷ ps) h =
    let own = h.0 in
    let more = all_made ps h.1 in
    record {
      entries = own.entry ∷ more.entries;
      are = λ i. and_more (own.is i) (more.are i);
      within = (own.within, more.within);
      near = λ i. own.near i || more.near i;
    }

pub record IsAlignmentKnown (a : Alignment) : Type 0 where
  pub entries : List AlignDim
  pub is : a ≡ Known entries
  pub within : AreWithin entries

known_with : (ps : List Pair) → AreMade ps → IsAlignmentKnown (alignment_with (all_or_none entry_of ps))
known_with ps h = record {
  entries = h.entries;
  is = ap alignment_with h.are ∙ ap (λ b. if b then PastLimits else Known h.entries) h.near;
  within = h.within;
}

dims_near : (s : Setting) (x : Name) → AllByRecursion (IsRight s.grid) s.objects → AreNear (dims_of s x)
dims_near s x right = by (object s x) (λ q is. found_right s.grid s.objects x q right is)
  where
    by : (o : Option Object) → ((q : Object) → o ≡ Some q → IsRight s.grid q) → AreNear (object_dims o)
    by None f = tt
    by (Some q) f = (f q refl).near

-- an alignee is an array, and its entries match
record Matched (s : Setting) (a : directive.Alignment) (x : Name) : Type 0 where
  matched : are_matched (sources a (length (dims_of s x))) (dims_of s x) (target_values s a) (dims_of s a.target) ≡ true
  pairs_fine : flat_map (pair_reasons (dims_of s x)) (pairs (sources a (length (dims_of s x))) (dims_of s x) (target_values s a) (dims_of s a.target)) ≡ []

matched_of : (s : Setting) (a : directive.Alignment) (x : Name) → alignee_reasons s a x ≡ [] → Matched s a x
matched_of s a x none = by (has_kind is_array_kind (object s x)) (are_matched (sources a (length (dims_of s x))) (dims_of s x) (target_values s a) (dims_of s a.target)) refl none
  where
    by : (b m : Bool) → are_matched (sources a (length (dims_of s x))) (dims_of s x) (target_values s a) (dims_of s a.target) ≡ m →
        (if not b || not m then reason.BadDirective ∷ [] else
        flat_map (pair_reasons (dims_of s x)) (pairs (sources a (length (dims_of s x))) (dims_of s x) (target_values s a) (dims_of s a.target))) ≡ [] → Matched s a x
    by true true is none = record { matched = is; pairs_fine = none }
    by true false is none = absurd cc
    by false m is none = absurd cc

pub alignment_known : (s : Setting) → ((x : Name) (b : Symbol) → find x s.names ≡ Some b → is_known b ≡ true) → AllByRecursion (IsRight s.grid) s.objects → (u : SymbolTable) →
    (a : directive.Alignment) (x : Name) → AllByRecursion (IsTyped u) (flat_map target_expressions (targets_of a.subscripts)) →
    alignment_reasons s a ≡ [] → alignee_reasons s a x ≡ [] → IsAlignmentKnown (alignment_of s a x)
alignment_known s known right u a x typed none own =
    let ds = dims_of s x in
    let bs = dims_of s a.target in
    let ss = sources a (length ds) in
    let ts = targets s a in
    let vs = target_values s a in
    let m = matched_of s a x own in
    let two = both ((length ss == length ds) && (length vs == length bs)) (length (filter is_colon ss) == length (filter is_triplet vs)) m.matched in
    let one = both (length ss == length ds) (length vs == length bs) two.0 in
    let sides : length ss ≡ length ds = eqb-true (length ss) (length ds) one.0 in
    let values : length vs ≡ length bs = eqb-true (length vs) (length bs) one.1 in
    let colons = eqb-true (length (filter is_colon ss)) (length (filter is_triplet vs)) two.1 in
    let good = targets_good s known u (dummies a) (length bs) a.subscripts typed (empties (flat_map (target_reasons s (dummies a)) (targets_of a.subscripts)) _ none).0 in
    let near = dims_near s a.target right in
    known_with (pairs ss ds vs bs) (all_made (pairs ss ds vs bs)
    (pairs_made ss ds (colons_from 0 ss) vs bs
    (values_known s known u (dummies a) bs ts (sym (values_counted s known u (dummies a) bs ts) ∙ values) near good)
    (sym (colons_counted 0 ss ∙ colons))
    (colons_near (λ c. IsNear (at_place ds c)) 0 ss (λ k less.
    subst (λ n. IsNear (at_place ds n)) (let same : k ≡ 0 + k = omega arith in same) (at_near ds k (dims_near s x right) (subst (λ n. k < n) sides less))))
    values near (all_empty (pair_reasons ds) (pairs ss ds vs bs) m.pairs_fine)))
