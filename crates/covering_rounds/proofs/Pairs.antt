-- Ordered pairs of nodes: all of them, and those that are kept by a test, are distinct and go from a node to another.
use Rattle.std.proofs.Common.{◌≡◌, ◌≢◌, ℕ, zero, suc, ◌+◌, ◌<◌, ◌≤◌, ◌==◌, not, ◌&&◌, ◌||◌, Bool, true, false, if◌then◌else◌, List, [], ◌∷◌, ◌++◌, map, filter, refl, sym, ◌∙◌, ap, arith, eq-eqb}
use Rattle.std.proofs.lemmas.List.Elements.{All-append, All-cons, All-head, All-map, All-nil, All-tail}
use Rattle.std.proofs.lemmas.List.Kept.{AllPairs-cons, AllPairs-filter}
use mathlib.Core.Bool.{true≢false}
use Rattle.std.specs.List.{All, AllPairs, flat_map, list_any, range_with_len}
use Rattle.hpf_base.proofs.Ranges.{All-range}
use Rattle.machine_steps.specs.Message.{has_any}
use Rattle.letters.specs.declared.pair.Pair.{Pair}
use Rattle.redistribute_rounds.specs.Rounds.{IsBetween}
use Rattle.machine_steps.specs.Rounds.{all_pairs, pair_of}

-- ---- filters

-- by tests that agree on the elements
pub filter-agree : {A : Type 0} (P Q : A → Bool) (xs : List A) → All (λ x. P x ≡ Q x) xs → filter P xs ≡ filter Q xs
filter-agree P Q [] agree = refl
filter-agree P Q (x ∷ xs) agree =
    let rest = filter-agree P Q xs (All-tail (λ x. P x ≡ Q x) x xs agree) in
    let here : P x ≡ Q x = All-head (λ x. P x ≡ Q x) x xs agree in
    λ i. if here i then x ∷ rest i else rest i

-- what holds of those that pass
filter-holds : {A : Type 0} (T : A → Bool) (P Q : A → Type 0) → ((x : A) → T x ≡ true → P x → Q x) → (xs : List A) → All P xs → All Q (filter T xs)
filter-holds T P Q gives [] all = All-nil Q
filter-holds T P Q gives (x ∷ xs) all = by_test (T x) refl (filter-holds T P Q gives xs (All-tail P x xs all))
  where
    by_test : (b : Bool) → T x ≡ b → All Q (filter T xs) → All Q (if b then x ∷ filter T xs else filter T xs)
    by_test true passes rest = All-cons Q x (filter T xs) (gives x passes (All-head P x xs all)) rest
    by_test false passes rest = rest

-- there are some where one passes
pub has_any-filter : {A : Type 0} (P : A → Bool) (xs : List A) → has_any (filter P xs) ≡ list_any P xs
has_any-filter P [] = refl
has_any-filter P (x ∷ xs) = by_test (P x) (has_any-filter P xs)
  where
    by_test : (b : Bool) → has_any (filter P xs) ≡ list_any P xs → has_any (if b then x ∷ filter P xs else filter P xs) ≡ (b || list_any P xs)
    by_test true rest = refl
    by_test false rest = rest

-- ---- all pairs

abbrev AreNodes : ℕ → Pair → Type 0
AreNodes nodes pair = (pair.from.0 < nodes) × (pair.to.0 < nodes)

abbrev pub pairs_from : (nodes lo len : ℕ) → List Pair
pairs_from nodes lo len = flat_map (λ from. map (pair_of from) (range_with_len 0 nodes)) (range_with_len lo len)

rows-are-nodes : (nodes lo len : ℕ) → lo + len ≤ nodes → All (AreNodes nodes) (pairs_from nodes lo len)
rows-are-nodes nodes lo zero upto = All-nil (AreNodes nodes)
rows-are-nodes nodes lo (suc len) upto =
    All-append (AreNodes nodes) (map (pair_of lo) (range_with_len 0 nodes)) (pairs_from nodes (lo + 1) len)
    (All-map (AreNodes nodes) (pair_of lo) (range_with_len 0 nodes) (All-range (λ to. AreNodes nodes (pair_of lo to)) 0 nodes (λ to ge lt. (omega (arith, upto), omega (arith, lt)))))
    (rows-are-nodes nodes (lo + 1) len (omega (arith, upto)))

pub all-are-nodes : (nodes : ℕ) → All (AreNodes nodes) (all_pairs nodes)
all-are-nodes nodes = rows-are-nodes nodes 0 nodes (omega arith)

abbrev Apart : Pair → Pair → Type 0
Apart one other = one ≢ other

row-distinct : (from lo len : ℕ) (rest : List Pair) → AllPairs Apart rest → All (λ pair. from < pair.from.0) rest → AllPairs Apart (map (pair_of from) (range_with_len lo len) ++ rest)
row-distinct from lo zero rest distinct above = distinct
row-distinct from lo (suc len) rest distinct above =
    let others = map (pair_of from) (range_with_len (lo + 1) len) in
    AllPairs-cons Apart (pair_of from lo) (others ++ rest)
    (All-append (Apart (pair_of from lo)) others rest
    (All-map (Apart (pair_of from lo)) (pair_of from) (range_with_len (lo + 1) len)
    (All-range (λ to. Apart (pair_of from lo) (pair_of from to)) (lo + 1) len (λ to ge lt e. let same : lo ≡ to = ap (λ p. p.to.0) e in absurd (omega (arith, ge, same)))))
    (λ i d inside e. let after = above i d inside in let same = ap (λ p. p.from.0) e in absurd (omega (arith, after, same))))
    (row-distinct from (lo + 1) len rest distinct above)

rows-from : (nodes least lo len : ℕ) → least ≤ lo → All (λ pair. least ≤ pair.from.0) (pairs_from nodes lo len)
rows-from nodes least lo zero le = All-nil (λ pair. least ≤ pair.from.0)
rows-from nodes least lo (suc len) le =
    All-append (λ pair. least ≤ pair.from.0) (map (pair_of lo) (range_with_len 0 nodes)) (pairs_from nodes (lo + 1) len)
    (All-map (λ pair. least ≤ pair.from.0) (pair_of lo) (range_with_len 0 nodes) (All-range (λ to. least ≤ lo) 0 nodes (λ to ge lt. le)))
    (rows-from nodes least (lo + 1) len (omega (arith, le)))

rows-distinct : (nodes lo len : ℕ) → AllPairs Apart (pairs_from nodes lo len)
rows-distinct nodes lo zero = λ i j d lt inside. absurd (omega (arith, inside))
rows-distinct nodes lo (suc len) =
    row-distinct lo 0 nodes (pairs_from nodes (lo + 1) len) (rows-distinct nodes (lo + 1) len)
    (λ i d inside. let after = rows-from nodes (lo + 1) (lo + 1) len (omega arith) i d inside in omega (arith, after))

-- those that are kept of them are distinct, and go from a node to another
module _ (nodes : ℕ) (test : Pair → Bool) where
  abbrev kept : List Pair
  kept = filter (λ pair. not (pair.from.0 == pair.to.0) && test pair) (all_pairs nodes)

  pub kept-distinct : AllPairs Apart kept
  kept-distinct = AllPairs-filter Apart (λ pair. not (pair.from.0 == pair.to.0) && test pair) (all_pairs nodes) (rows-distinct nodes 0 nodes)

  pub kept-between : All (IsBetween nodes) kept
  kept-between =
      filter-holds (λ pair. not (pair.from.0 == pair.to.0) && test pair) (AreNodes nodes) (IsBetween nodes)
      (λ pair passes are. record { from = are.0; to = are.1; other = λ e. true≢false (sym (sym (ap (λ b. not b && test pair) (eq-eqb pair.from.0 pair.to.0 e)) ∙ passes)) })
      (all_pairs nodes) (all-are-nodes nodes)
