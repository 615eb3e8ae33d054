-- Each pair with a message stands in a round.
use Rattle.std.proofs.Common.{◌≡◌, ℕ, zero, suc, ◌+◌, ◌<◌, ◌≤◌, ◌==◌, not, ◌&&◌, ◌||◌, Bool, true, false, List, [], ◌∷◌, length, map, get_or, refl, sym, ◌∙◌, ap, arith, eq-eqb, eqb-true, ◌⊎◌, inl, inr}
use Rattle.std.proofs.lemmas.Bool.{cases_order, ne_eqb}
use Rattle.std.proofs.lemmas.List.Elements.{All-append, All-map, All-nil}
use Rattle.std.proofs.lemmas.List.Folds.{list_any-append, list_any_none}
use Rattle.std.proofs.lemmas.List.Sorted.{list_any-IsPermutation}
use Rattle.std.proofs.lemmas.Map.Views.{any-filter_same}
use Rattle.std.specs.Cmp.{first_so, second_so}
use mathlib.Core.Bool.{true≢false}
use Rattle.std.specs.List.{All, flat_map, list_any, range_with_len}
use Rattle.hpf_base.proofs.Ranges.{All-range}
use Rattle.storage.specs.Storage.{Spot}
use Rattle.machine_steps.specs.Agrees.{AreCovered}
use Rattle.machine_steps.specs.Instr.{Remapping}
use Rattle.machine_steps.specs.Layout.{AreOwned, Layout, sizes, owns_spot, least_owner_of}
use Rattle.machine_steps.specs.Machine.{remapped}
use Rattle.machine_steps.specs.Message.{all_spots, has_any, remap_message, spots_from}
use Rattle.owner_tables.proofs.Ranges.{first-passes}
use Rattle.letters.specs.declared.pair.Pair.{Pair}
use Rattle.redistribute_rounds.proofs.Legal.{colors-legal}
use Rattle.covering_rounds.specs.Moved.{is_moved}
use Rattle.machine_steps.specs.Rounds.{all_pairs, is_pair, moving_pairs, pair_of, remap_rounds, rounds_on}
use Rattle.covering_rounds.proofs.Pairs.{has_any-filter, kept-between, kept-distinct, pairs_from}

or_true : (b : Bool) → (b || true) ≡ true
or_true true = refl
or_true false = refl

-- ---- all pairs

row-has : (from to lo len : ℕ) → lo ≤ to → to < lo + len → list_any (is_pair from to) (map (pair_of from) (range_with_len lo len)) ≡ true
row-has from to lo zero ge lt = absurd (omega (arith, ge, lt))
row-has from to lo (suc len) ge lt = by_order (cases_order lo to) (λ (less : lo < to). row-has from to (lo + 1) len (omega (arith, less)) (omega (arith, lt)))
  where
    by_order : (lo ≡ to) ⊎ ((lo < to) ⊎ (to < lo)) → (lo < to → list_any (is_pair from to) (map (pair_of from) (range_with_len (lo + 1) len)) ≡ true)
        → (((from == from) && (lo == to)) || list_any (is_pair from to) (map (pair_of from) (range_with_len (lo + 1) len))) ≡ true
    by_order (inl same) rest = λ i. (eq-eqb from from refl i && eq-eqb lo to same i) || list_any (is_pair from to) (map (pair_of from) (range_with_len (lo + 1) len))
    by_order (inr (inl less)) rest = ap (λ b. ((from == from) && (lo == to)) || b) (rest less) ∙ or_true ((from == from) && (lo == to))
    by_order (inr (inr more)) rest = absurd (omega (arith, ge, more))

rows-have : (nodes from to lo len : ℕ) → to < nodes → lo ≤ from → from < lo + len → list_any (is_pair from to) (pairs_from nodes lo len) ≡ true
rows-have nodes from to lo zero lt' ge lt = absurd (omega (arith, ge, lt))
rows-have nodes from to lo (suc len) lt' ge lt =
    list_any-append (is_pair from to) (map (pair_of lo) (range_with_len 0 nodes)) (pairs_from nodes (lo + 1) len)
    ∙ by_order (cases_order lo from) (λ (less : lo < from). rows-have nodes from to (lo + 1) len lt' (omega (arith, less)) (omega (arith, lt)))
  where
    by_order : (lo ≡ from) ⊎ ((lo < from) ⊎ (from < lo)) → (lo < from → list_any (is_pair from to) (pairs_from nodes (lo + 1) len) ≡ true)
        → (list_any (is_pair from to) (map (pair_of lo) (range_with_len 0 nodes)) || list_any (is_pair from to) (pairs_from nodes (lo + 1) len)) ≡ true
    by_order (inl same) rest =
        ap (λ b. b || list_any (is_pair from to) (pairs_from nodes (lo + 1) len))
        (ap (λ l. list_any (is_pair from to) (map (pair_of l) (range_with_len 0 nodes))) same ∙ row-has from to 0 nodes (omega arith) (omega (arith, lt')))
    by_order (inr (inl less)) rest =
        ap (λ b. list_any (is_pair from to) (map (pair_of lo) (range_with_len 0 nodes)) || b) (rest less) ∙ or_true (list_any (is_pair from to) (map (pair_of lo) (range_with_len 0 nodes)))
    by_order (inr (inr more)) rest = absurd (omega (arith, ge, more))

-- ---- rounds

-- what is in all of them together is in one
round-of : (test : Pair → Bool) (rounds : List (List Pair)) → list_any test (flat_map (λ round. round) rounds) ≡ true
    → (k : ℕ) × (k < length rounds) × (list_any test (get_or rounds k []) ≡ true)
round-of test [] h = absurd (true≢false (sym h))
round-of test (round ∷ rounds) h =
    by_test (list_any test round) refl (round-of test rounds) (sym (list_any-append test round (flat_map (λ round. round) rounds)) ∙ h)
  where
    by_test : (b : Bool) → list_any test round ≡ b
        → (list_any test (flat_map (λ round. round) rounds) ≡ true → (k : ℕ) × (k < length rounds) × (list_any test (get_or rounds k []) ≡ true))
        → (b || list_any test (flat_map (λ round. round) rounds)) ≡ true
        → (k : ℕ) × (k < length (round ∷ rounds)) × (list_any test (get_or (round ∷ rounds) k []) ≡ true)
    by_test true e rest h = (0, omega arith, e)
    by_test false e rest h = let r = rest h in let lt = r.1 in (suc r.0, omega (arith, lt), r.2)

-- ---- all elements are inside

abbrev spot_in : ℕ → ℕ → Spot
spot_in row at = record { row = row; at = at }

spots-inside : (first : ℕ) (ns : List ℕ) → All (λ s. (k : ℕ) × (s.row ≡ first + k) × (s.at < get_or ns k 0)) (spots_from first ns)
spots-inside first [] = All-nil (λ s. (k : ℕ) × (s.row ≡ first + k) × (s.at < 0))
spots-inside first (n ∷ ns) =
    let Inside : Spot → Type 0 = λ s. (k : ℕ) × (s.row ≡ first + k) × (s.at < get_or (n ∷ ns) k 0) in
    All-append Inside (map (spot_in first) (range_with_len 0 n)) (spots_from (first + 1) ns)
    (All-map Inside (spot_in first) (range_with_len 0 n) (All-range (λ at. Inside (spot_in first at)) 0 n (λ at ge lt. (0, omega arith, omega (arith, lt)))))
    (λ i d inside. let r = spots-inside (first + 1) ns i d inside in let row = r.1 in (suc r.0, omega (arith, row), r.2))

-- ---- a node sends nothing to itself

module _ (nodes : ℕ) (old new : List Layout) (owned : AreOwned nodes old) where
  least-owns : (spot : Spot) → spot.at < get_or (sizes old) spot.row 0 → owns_spot old (least_owner_of nodes old spot) spot ≡ true
  least-owns spot below =
      let o = owned spot below in
      let lt = o.1 in
      (first-passes (λ node. owns_spot old node spot) 0 nodes o.0 (omega arith) (omega (arith, lt)) o.2).0

  not-moved : (node : ℕ) (spot : Spot) → spot.at < get_or (sizes old) spot.row 0 → is_moved nodes old new node node spot ≡ false
  not-moved node spot below = by_least (least_owner_of nodes old spot == node) refl
    where
      least-other : (a b : Bool) → (a && (b && false)) ≡ false
      least-other true true = refl
      least-other true false = refl
      least-other false b = refl

      is-owner : (a : Bool) → (a && false) ≡ false
      is-owner true = refl
      is-owner false = refl

      by_least : (b : Bool) → (least_owner_of nodes old spot == node) ≡ b → (owns_spot new node spot && (not (owns_spot old node spot) && b)) ≡ false
      by_least true e =
          let owns : owns_spot old node spot ≡ true = ap (λ n. owns_spot old n spot) (sym (eqb-true (least_owner_of nodes old spot) node e)) ∙ least-owns spot below in
          ap (λ b. owns_spot new node spot && (not b && true)) owns ∙ is-owner (owns_spot new node spot)
      by_least false e = least-other (owns_spot new node spot) (not (owns_spot old node spot))

  nothing-to-itself : (node : ℕ) → has_any (remap_message nodes old new node node) ≡ false
  nothing-to-itself node =
      has_any-filter (is_moved nodes old new node node) (all_spots old)
      ∙ list_any_none (is_moved nodes old new node node) (all_spots old)
      (λ i d inside.
      let s = get_or (all_spots old) i d in
      let r = spots-inside 0 (sizes old) i d inside in
      let row = r.1 in
      let same : r.0 ≡ s.row = omega (arith, row) in
      let below = r.2 in
      let size : get_or (sizes old) r.0 0 ≡ get_or (sizes old) s.row 0 = ap (λ k. get_or (sizes old) k 0) same in
      not-moved node s (omega (arith, below, size)))

  module _ (from to : ℕ) (lt : from < nodes) (lt' : to < nodes) (h : has_any (remap_message nodes old new from to) ≡ true) where
    others : (from == to) ≡ false
    others = ne_eqb from to (λ e. true≢false (sym h ∙ ap (λ n. has_any (remap_message nodes old new from n)) (sym e) ∙ nothing-to-itself from))

    moves : list_any (is_pair from to) (moving_pairs nodes old new) ≡ true
    moves =
        any-filter_same (is_pair from to) (λ pair. not (pair.from.0 == pair.to.0) && has_any (remap_message nodes old new pair.from.0 pair.to.0)) true
        (λ pair is.
        let f = eqb-true pair.from.0 from (first_so (pair.from.0 == from) (pair.to.0 == to) is) in
        let t = eqb-true pair.to.0 to (second_so (pair.from.0 == from) (pair.to.0 == to) is) in
        (λ i. not (f i == t i) && has_any (remap_message nodes old new (f i) (t i))) ∙ (λ i. not (others i) && h i)) (all_pairs nodes)
        ∙ rows-have nodes from to 0 nodes lt' (omega arith) (omega (arith, lt))

    pub in-a-round : (k : ℕ) × (k < length (remap_rounds nodes old new)) × (list_any (is_pair from to) (get_or (remap_rounds nodes old new) k []) ≡ true)
    in-a-round =
        let test : Pair → Bool = λ pair. has_any (remap_message nodes old new pair.from.0 pair.to.0) in
        let legal = colors-legal nodes (moving_pairs nodes old new) (kept-between nodes test) (kept-distinct nodes test) in
        round-of (is_pair from to) (remap_rounds nodes old new)
        (sym (list_any-IsPermutation (is_pair from to) (moving_pairs nodes old new) (flat_map (λ round. round) (remap_rounds nodes old new)) legal.each_once) ∙ moves)

pub rounds-cover : (nodes : ℕ) (new : List Remapping) (layouts : List Layout) → AreOwned nodes layouts → AreCovered nodes new (rounds_on nodes new) layouts
rounds-cover nodes new layouts owned from to lt lt' h = in-a-round nodes layouts (remapped new layouts) owned from to lt lt' h
