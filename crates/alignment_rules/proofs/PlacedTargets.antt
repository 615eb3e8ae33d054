-- Where the `:` and the dummies of an ALIGN stand that breaks no rule.
use Rattle.std.proofs.Common.{◌≡◌, ◌==◌, ℕ, zero, suc, ◌+◌, ◌<◌, Bool, true, false, List, [], ◌∷◌, ◌++◌, drop, filter, length, map, replicate, bytes_eq, Option, Some, None, refl, sym, ap, subst, ◌∙◌, arith}
use Rattle.std.specs.Prelude.{◌&&◌, ◌||◌, not, cond, if◌then◌else◌}
use Rattle.std.specs.List.{flat_map, list_any}
use Rattle.std.proofs.lemmas.Bool.{false≢true}
use Rattle.std.proofs.lemmas.Bool.Decides.{nat_tests}
use Rattle.std.proofs.lemmas.List.{append-nil}
use Rattle.std.proofs.lemmas.Slice.Eq.{bytes_eq-Decides}
use Rattle.hpf_base.specs.declared.refusal.Reason.{Reason}
use Rattle.hpf_base.specs.declared.refusal.Reason.TheVariants as reason
use Rattle.syntax_tree.specs.Expression.{One, Range, Glued}
use Rattle.syntax_tree.specs.Directive.{Alignment, Source, Dummy, Spread, Collapsed, Target, Placed, Replicated}
use Rattle.declarations.specs.Reasons.{when}
use Rattle.expression_rules.specs.Operands.{names_in}
use Rattle.expression_rules.specs.Symbols.{Name, is_among}
use Rattle.expression_rules.specs.declared.dims.Dim.{Dim}
use Rattle.name_table.specs.Directives.{dummies, dummy_of, sources_of, targets_of}
use Rattle.name_table.specs.Uses.{repeats}
use Rattle.distribution_rules.specs.Setting.{Setting, dims_of, has_kind, is_array_kind, is_mapped_kind, object}
use Rattle.linear_subscripts.specs.declared.form.LinearForm.{LinearForm}
use Rattle.alignment_rules.specs.declared.alignment_values.TargetValue.{TargetValue}
use Rattle.alignment_rules.specs.declared.alignment_values.TargetValue.TheVariants.{Every, Subscript, Triplet}
use Rattle.alignment_rules.specs.AlignmentEntries.{colons_from, dimension_from, is_dummy, is_triplet, pairs}
use Rattle.alignment_rules.specs.AlignmentRules.{alignee_reasons, alignment_reasons, are_matched, dummies_of_target, is_colon, overlap, pair_reasons, target_reasons}
use Rattle.alignment_rules.specs.AlignmentValues.{first_dim, first_name, full, list_or, sources, target_value, target_values, targets, values_from}
use Rattle.linear_subscripts.specs.LinearForms.{dummies_in, have_common, linear_form}
use Rattle.alignment_rules.proofs.MovingDims.{Differs, Each, EachLater, IsColonAt, IsPlaced, NameStands, NamesDiffer, StandsIn, at, each_mapped}

-- ---- `:` among the entries of an alignee

record ColonFrom (n : ℕ) (ss : List Source) (c : ℕ) : Type 0 where
  place : ℕ
  is : c ≡ n + place
  within : place < length ss
  colon : at ss place ≡ Spread

after_one : (s : Source) (ss : List Source) (n c : ℕ) → ColonFrom (suc n) ss c → ColonFrom n (s ∷ ss) c
after_one s ss n c h = record { place = suc h.place; is = let e = h.is in omega arith; within = let w = h.within in omega arith; colon = h.colon }

after_differs : (ss : List Source) (n c : ℕ) → ColonFrom (suc n) ss c → Differs n c
after_differs ss n c h = λ same. let e = h.is in omega arith

colons_stand : (n : ℕ) (ss : List Source) → Each (ColonFrom n ss) (colons_from n ss)
colons_stand n [] = tt
colons_stand n (Spread ∷ ss) = (
  record { place = 0; is = omega arith; within = omega arith; colon = refl },
  each_mapped (ColonFrom (suc n) ss) (ColonFrom n (Spread ∷ ss)) (after_one Spread ss n) _ (colons_stand (suc n) ss),
)
colons_stand n (Dummy x ∷ ss) = each_mapped (ColonFrom (suc n) ss) (ColonFrom n (Dummy x ∷ ss)) (after_one (Dummy x) ss n) _ (colons_stand (suc n) ss)
colons_stand n (Collapsed ∷ ss) = each_mapped (ColonFrom (suc n) ss) (ColonFrom n (Collapsed ∷ ss)) (after_one Collapsed ss n) _ (colons_stand (suc n) ss)

colons_differ : (n : ℕ) (ss : List Source) → EachLater Differs (colons_from n ss)
colons_differ n [] = tt
colons_differ n (Spread ∷ ss) = (each_mapped (ColonFrom (suc n) ss) (Differs n) (after_differs ss n) _ (colons_stand (suc n) ss), colons_differ (suc n) ss)
colons_differ n (Dummy x ∷ ss) = colons_differ (suc n) ss
colons_differ n (Collapsed ∷ ss) = colons_differ (suc n) ss

colon_at : (ss : List Source) (c : ℕ) → ColonFrom 0 ss c → IsColonAt ss c
colon_at ss c h =
    let e : h.place ≡ c = (let i = h.is in omega arith) in
    (let w = h.within in omega arith, sym (ap (at ss) e) ∙ h.colon)

colons_counted : (n : ℕ) (ss : List Source) → length (colons_from n ss) ≡ length (filter is_colon ss)
colons_counted n [] = refl
colons_counted n (Spread ∷ ss) = ap suc (colons_counted (suc n) ss)
colons_counted n (Dummy x ∷ ss) = colons_counted (suc n) ss
colons_counted n (Collapsed ∷ ss) = colons_counted (suc n) ss

-- ---- dummies among them

record DummyFrom (n : ℕ) (ss : List Source) (x : Name) : Type 0 where
  place : ℕ
  is : dimension_from n x ss ≡ n + place
  within : place < length ss
  dummy : is_dummy x (at ss place) ≡ true

or_is : (a b : Bool) → (a || b) ≡ true → a ≡ false → b ≡ true
or_is true b h e = absurd (false≢true (sym e))
or_is false b h e = h

or_right : (a b : Bool) → b ≡ true → (a || b) ≡ true
or_right true b h = refl
or_right false b h = h

among_rest : (x : Name) (s : Source) (ss : List Source) → is_dummy x s ≡ false → is_among x (flat_map dummy_of (s ∷ ss)) ≡ true → is_among x (flat_map dummy_of ss) ≡ true
among_rest x (Dummy y) ss other h = or_is (bytes_eq x y) (is_among x (flat_map dummy_of ss)) h other
among_rest x Spread ss other h = h
among_rest x Collapsed ss other h = h

dummy_stands : (n : ℕ) (ss : List Source) (x : Name) → is_among x (flat_map dummy_of ss) ≡ true → DummyFrom n ss x
dummy_stands n [] x h = absurd (false≢true h)
dummy_stands n (s ∷ ss) x h = by (is_dummy x s) refl (λ other. dummy_stands (suc n) ss x (among_rest x s ss other h))
  where
    by : (b : Bool) → is_dummy x s ≡ b → (is_dummy x s ≡ false → DummyFrom (suc n) ss x) → DummyFrom n (s ∷ ss) x
    by true e later =
        record { place = 0; is = ap (λ t. if t then n else dimension_from (suc n) x ss) e ∙ (let z : n ≡ n + 0 = omega arith in z); within = omega arith; dummy = e }
    by false e later =
        let d = later e in
        record {
          place = suc d.place;
          is = ap (λ t. if t then n else dimension_from (suc n) x ss) e ∙ d.is ∙ (let z : suc n + d.place ≡ n + suc d.place = omega arith in z);
          within = let w = d.within in omega arith;
          dummy = d.dummy;
        }

stands : (ss : List Source) (x : Name) → is_among x (flat_map dummy_of ss) ≡ true → StandsIn ss x
stands ss x h =
    let d = dummy_stands 0 ss x h in
    let e : d.place ≡ dimension_from 0 x ss = (let i = d.is in omega arith) in
    (let w = d.within in omega arith, sym (ap (λ n. is_dummy x (at ss n)) e) ∙ d.dummy)

-- ---- dummies in the entries of the target

abbrev NameAmong : List Name → TargetValue → Type 0
NameAmong ds Every = Unit {0}
NameAmong ds (Subscript None l) = Unit {0}
NameAmong ds (Subscript (Some x) l) = is_among x ds ≡ true
NameAmong ds (Triplet first last step) = Unit {0}

-- the first of the names that pass a test passes it, and is among them
first_passes : (ds xs : List Name) (l : Option LinearForm) → NameAmong ds (Subscript (first_name (filter (λ x. is_among x ds) xs)) l)
first_passes ds [] l = tt
first_passes ds (x ∷ xs) l = by (is_among x ds) refl (first_passes ds xs l)
  where
    by : (b : Bool) → is_among x ds ≡ b → NameAmong ds (Subscript (first_name (filter (λ y. is_among y ds) xs)) l) →
        NameAmong ds (Subscript (first_name (cond b (x ∷ filter (λ y. is_among y ds) xs) (filter (λ y. is_among y ds) xs))) l)
    by true e rest = e
    by false e rest = rest

bytes_same : (x : Name) → bytes_eq x x ≡ true
bytes_same x = (bytes_eq-Decides x x).1 refl

first_among : (xs : List Name) (l : Option LinearForm) → NameAmong xs (Subscript (first_name xs) l)
first_among [] l = tt
first_among (x ∷ xs) l = ap (λ b. b || is_among x xs) (bytes_same x)

value_among : (s : Setting) (ds : List Name) (b : Option Dim) (t : Target) → NameAmong ds (target_value s ds b t)
value_among s ds b Replicated = tt
value_among s ds b (Placed (One e)) = first_passes ds (names_in e) (linear_form s ds e)
value_among s ds b (Placed (Range first last step)) = tt
value_among s ds b (Placed (Glued first step)) = tt

value_in_target : (s : Setting) (ds : List Name) (b : Option Dim) (t : Target) → NameAmong (dummies_of_target ds t) (target_value s ds b t)
value_in_target s ds b Replicated = tt
value_in_target s ds b (Placed (One e)) =
    subst (λ xs. NameAmong xs (Subscript (first_name (dummies_in ds e)) (linear_form s ds e))) (sym (append-nil (dummies_in ds e)))
    (first_among (dummies_in ds e) (linear_form s ds e))
value_in_target s ds b (Placed (Range first last step)) = tt
value_in_target s ds b (Placed (Glued first step)) = tt

-- a name in two lists
common : (xs ys : List Name) (x : Name) → is_among x xs ≡ true → is_among x ys ≡ true → have_common xs ys ≡ true
common [] ys x first second = absurd (false≢true first)
common (z ∷ zs) ys x first second = by (bytes_eq x z) refl (λ rest. common zs ys x rest second)
  where
    by : (b : Bool) → bytes_eq x z ≡ b → (is_among x zs ≡ true → have_common zs ys ≡ true) → have_common (z ∷ zs) ys ≡ true
    by true e later = ap (λ t. t || have_common zs ys) (sym (ap (λ y. is_among y ys) ((bytes_eq-Decides x z).0 e)) ∙ second)
    by false e later = or_right (is_among z ys) (have_common zs ys) (later (or_is (bytes_eq x z) (is_among x zs) first e))

names_of_two : (xs ys : List Name) → have_common xs ys ≡ false → (v w : TargetValue) → NameAmong xs v → NameAmong ys w → NamesDiffer v w
names_of_two xs ys none Every w first second = tt
names_of_two xs ys none (Subscript None l) w first second = tt
names_of_two xs ys none (Triplet a b c) w first second = tt
names_of_two xs ys none (Subscript (Some x) l) Every first second = tt
names_of_two xs ys none (Subscript (Some x) l) (Subscript None k) first second = tt
names_of_two xs ys none (Subscript (Some x) l) (Triplet a b c) first second = tt
names_of_two xs ys none (Subscript (Some x) l) (Subscript (Some y) k) first second =
    λ same. false≢true (sym none ∙ common xs ys x first (ap (λ z. is_among z ys) same ∙ second))

pub no_or : (a b : Bool) → (a || b) ≡ false → (a ≡ false) × (b ≡ false)
no_or true b h = absurd (false≢true (sym h))
no_or false b h = (refl, h)

-- of the first entry and the others
first_differs : (s : Setting) (ds xs : List Name) (v : TargetValue) (bs : List (Option Dim)) (ts : List Target) → NameAmong xs v →
    list_any (have_common xs) (map (dummies_of_target ds) ts) ≡ false → Each (NamesDiffer v) (values_from s ds bs ts)
first_differs s ds xs v bs [] among none = tt
first_differs s ds xs v bs (t ∷ ts) among none =
    let both = no_or (have_common xs (dummies_of_target ds t)) (list_any (have_common xs) (map (dummies_of_target ds) ts)) none in (
      names_of_two xs (dummies_of_target ds t) both.0 v (target_value s ds (first_dim bs) t) among (value_in_target s ds (first_dim bs) t),
      first_differs s ds xs v (drop 1 bs) ts among both.1,
    )

all_differ : (s : Setting) (ds : List Name) (bs : List (Option Dim)) (ts : List Target) → overlap (map (dummies_of_target ds) ts) ≡ false →
    EachLater NamesDiffer (values_from s ds bs ts)
all_differ s ds bs [] none = tt
all_differ s ds bs (t ∷ ts) none =
    let both = no_or (list_any (have_common (dummies_of_target ds t)) (map (dummies_of_target ds) ts)) (overlap (map (dummies_of_target ds) ts)) none in (
      first_differs s ds (dummies_of_target ds t) (target_value s ds (first_dim bs) t) (drop 1 bs) ts (value_in_target s ds (first_dim bs) t) both.0,
      all_differ s ds (drop 1 bs) ts both.1,
    )

all_among : (s : Setting) (ds : List Name) (bs : List (Option Dim)) (ts : List Target) → Each (NameAmong ds) (values_from s ds bs ts)
all_among s ds bs [] = tt
all_among s ds bs (t ∷ ts) = (value_among s ds (first_dim bs) t, all_among s ds (drop 1 bs) ts)

-- a list that is left out names none
none_with_none : (xss : List (List Name)) → list_any (have_common []) xss ≡ false
none_with_none [] = refl
none_with_none (xs ∷ xss) = none_with_none xss

none_full : (ds : List Name) (n : ℕ) → overlap (map (dummies_of_target ds) (replicate n full)) ≡ false
none_full ds zero = refl
none_full ds (suc n) = ap (λ b. b || overlap (map (dummies_of_target ds) (replicate n full))) (none_with_none (map (dummies_of_target ds) (replicate n full))) ∙ none_full ds n

-- ---- an ALIGN that breaks no rule

pub second_empty : {X : Type 0} (xs ys : List X) → xs ++ ys ≡ [] → ys ≡ []
second_empty [] ys h = h
second_empty (x ∷ xs) ys h = absurd cc

pub when_empty : (b : Bool) (why : Reason) → when b why ≡ [] → b ≡ false
when_empty true why h = absurd cc
when_empty false why h = refl

no_overlap : (s : Setting) (a : Alignment) → alignment_reasons s a ≡ [] → overlap (map (dummies_of_target (dummies a)) (targets_of a.subscripts)) ≡ false
no_overlap s a kept =
    let o = overlap (map (dummies_of_target (dummies a)) (targets_of a.subscripts)) in
    let mapped = has_kind is_mapped_kind (object s a.target) in
    let rest = when_empty (repeats (dummies a) || o || not mapped) reason.BadDirective
    (second_empty (flat_map (target_reasons s (dummies a)) (targets_of a.subscripts)) (when (repeats (dummies a) || o || not mapped) reason.BadDirective) kept) in
    (no_or (repeats (dummies a)) o (no_or (repeats (dummies a) || o) (not mapped) rest).0).1

listed_apart : (s : Setting) (ds : List Name) (bs : List (Option Dim)) (given : Option (List Target)) → overlap (map (dummies_of_target ds) (targets_of given)) ≡ false →
    overlap (map (dummies_of_target ds) (list_or full (length bs) given)) ≡ false
listed_apart s ds bs None h = none_full ds (length bs)
listed_apart s ds bs (Some ts) h = h

-- the entries of an alignee have all dummies
sources_have : (given : Option (List Source)) (rank : ℕ) (x : Name) → is_among x (flat_map dummy_of (sources_of given)) ≡ true →
    is_among x (flat_map dummy_of (list_or Spread rank given)) ≡ true
sources_have None rank x h = absurd (false≢true h)
sources_have (Some ss) rank x h = h

if_none : {X : Type 0} (b : Bool) (x : X) (rest : List X) → (if b then x ∷ [] else rest) ≡ [] → (b ≡ false) × (rest ≡ [])
if_none true x rest h = absurd cc
if_none false x rest h = (refl, h)

pub not_false : (b : Bool) → not b ≡ false → b ≡ true
not_false true h = refl
not_false false h = sym h

pub both_true : (a b : Bool) → (a && b) ≡ true → (a ≡ true) × (b ≡ true)
both_true true b h = (refl, h)
both_true false b h = absurd (false≢true h)

same_number : (m n : ℕ) → (m == n) ≡ true → m ≡ n
same_number m n h = grind (arith, nat_tests)

-- an entry for each dimension of both, and as many `:` as triplets
pub record IsMatched (s : Setting) (a : Alignment) (x : Name) : Type 0 where
  pub sources_each : length (sources a (length (dims_of s x))) ≡ length (dims_of s x)
  pub targets_each : length (target_values s a) ≡ length (dims_of s a.target)
  pub colons_each : length (filter is_colon (sources a (length (dims_of s x)))) ≡ length (filter is_triplet (target_values s a))
  pub pairs_kept : flat_map (pair_reasons (dims_of s x)) (pairs (sources a (length (dims_of s x))) (dims_of s x) (target_values s a) (dims_of s a.target)) ≡ []

pub matched : (s : Setting) (a : Alignment) (x : Name) → alignee_reasons s a x ≡ [] → IsMatched s a x
matched s a x kept =
    let ss = sources a (length (dims_of s x)) in
    let vs = target_values s a in
    let bs = dims_of s a.target in
    let array = has_kind is_array_kind (object s x) in
    let good = are_matched ss (dims_of s x) vs bs in
    let parts = if_none (not array || not good) reason.BadDirective (flat_map (pair_reasons (dims_of s x)) (pairs ss (dims_of s x) vs bs)) kept in
    let all = not_false good (no_or (not array) (not good) parts.0).1 in
    let front = both_true ((length ss == length (dims_of s x)) && (length vs == length bs)) (length (filter is_colon ss) == length (filter is_triplet vs)) all in
    let two = both_true (length ss == length (dims_of s x)) (length vs == length bs) front.0 in
    record {
      sources_each = same_number (length ss) (length (dims_of s x)) two.0;
      targets_each = same_number (length vs) (length bs) two.1;
      colons_each = same_number (length (filter is_colon ss)) (length (filter is_triplet vs)) front.1;
      pairs_kept = parts.1;
    }

name_stands : (given : Option (List Source)) (rank : ℕ) (v : TargetValue) → NameAmong (flat_map dummy_of (sources_of given)) v → NameStands (list_or Spread rank given) v
name_stands given rank Every h = tt
name_stands given rank (Subscript None l) h = tt
name_stands given rank (Subscript (Some x) l) h = stands (list_or Spread rank given) x (sources_have given rank x h)
name_stands given rank (Triplet a b c) h = tt

pub placed : (s : Setting) (a : Alignment) (x : Name) → alignment_reasons s a ≡ [] → IsMatched s a x →
    IsPlaced (sources a (length (dims_of s x))) (colons_from 0 (sources a (length (dims_of s x)))) (target_values s a)
placed s a x kept m =
    let rank = length (dims_of s x) in
    let ss = sources a rank in
    let bs = dims_of s a.target in
    record {
      colons = each_mapped (ColonFrom 0 ss) (IsColonAt ss) (colon_at ss) (colons_from 0 ss) (colons_stand 0 ss);
      left = colons_counted 0 ss ∙ m.colons_each;
      names = each_mapped (NameAmong (dummies a)) (NameStands ss) (name_stands a.sources rank) (target_values s a) (all_among s (dummies a) bs (targets s a));
      colons_apart = colons_differ 0 ss;
      names_apart = all_differ s (dummies a) bs (targets s a) (listed_apart s (dummies a) bs a.subscripts (no_overlap s a kept));
    }
