-- What is noted, put in order, is the messages.
use Rattle.std.proofs.Common.{◌≡◌, ℕ, ◌+◌, ◌<◌, nat_eq, nat_lt, ◌==◌, not, ◌&&◌, ◌||◌, Bool, true, false, List, [], length, map, filter, get_or, replicate, refl, sym, ◌∙◌, ap, arith, ◌≤◌, ◌⊎◌, inl, inr}
use Rattle.std.proofs.lemmas.Bool.{cases_order}
use Rattle.std.proofs.lemmas.Bool.Decides.{nat_tests}
use Rattle.std.proofs.lemmas.List.{get_or-replicate, get_or_past, length-map, length-replicate}
use Rattle.std.proofs.lemmas.List.FromFn.{fill_by_all}
use Rattle.std.specs.List.{range_with_len}
use Rattle.storage.specs.Storage.{Spot}
use Rattle.machine_steps.specs.Layout.{Layout, size_of, sizes, owns_spot, least_owner_of}
use Rattle.machine_steps.specs.Message.{Part, any_below, names_spot, needs, message, all_spots}
use Rattle.message_elements.specs.Elements.{is_among, is_sent}
use Rattle.comm_sets.specs.Noted.{Lists, Noted, Arranged}
use Rattle.message_elements.proofs.AllSpots.{is-filter, or_false}
use Rattle.message_elements.proofs.AllSpots.{both-tests}
use Rattle.comm_sets.proofs.Noting.{below-more}

-- each node's list is the filter of all elements by what was noted for it
pub are-filters : (nodes : ℕ) (layouts : List Layout) (noted arranged : Lists) {test : ℕ → Spot → Bool} (P : ℕ → Spot → Bool) → Noted (replicate nodes []) noted test → Arranged noted arranged
    → ((node : ℕ) (s : Spot) → test node s ≡ (nat_lt s.at (get_or (sizes layouts) s.row 0) && P node s)) → arranged ≡ map (λ node. filter (P node) (all_spots layouts)) (range_with_len 0 nodes)
are-filters nodes layouts noted arranged {test} P notes order tests =
    let none : List Spot = [] in
    let count : length noted ≡ nodes = notes.nodes ∙ length-replicate nodes none in
    fill_by_all (λ node. filter (P node) (all_spots layouts)) arranged nodes [] (order.nodes ∙ count)
    (λ k lt. is-filter (P k) layouts (get_or arranged k []) (order.ascends k (omega (arith, count)))
    (λ s. order.among k s ∙ notes.among k (omega (arith, length-replicate nodes none)) s
    ∙ ap (λ xs. test k s || is_among xs s) (get_or-replicate nodes k none [] lt) ∙ or_false (test k s) ∙ tests k s))

-- of two tests beside a third the order doesn't matter
and_turned : (a b c : Bool) → (a && (b && c)) ≡ (b && (a && c))
and_turned true b c = refl
and_turned false true c = refl
and_turned false false c = refl

-- ---- tuple by tuple

-- the element is read at one of the first so many tuples that the target computes, and sent
abbrev pub is_sent_below : ℕ → List Layout → Part → (tuples from to : ℕ) → Spot → Bool
is_sent_below nodes layouts part tuples from to s = needs (record part { tuples = tuples }) to s && is_sent nodes layouts from to s

module _ (nodes : ℕ) (layouts : List Layout) (part : Part) (n : ℕ) where
  -- one tuple more
  pub tuples-more : (from to : ℕ) (s : Spot)
      → (((part.computes to n && names_spot (part.reads n) s) && is_sent nodes layouts from to s) || is_sent_below nodes layouts part n from to s) ≡ is_sent_below nodes layouts part (n + 1) from to s
  tuples-more from to s =
      let test = λ (t : ℕ). part.computes to t && names_spot (part.reads t) s in
      both-tests (test n) (any_below test n) (is_sent nodes layouts from to s) ∙ ap (λ b. b && is_sent nodes layouts from to s) (sym (below-more test n))

  module _ (noted arranged : Lists) (all : n ≡ part.tuples) (order : Arranged noted arranged) where
    all-tuples : (from to : ℕ) (s : Spot) → is_sent_below nodes layouts part n from to s
        ≡ (nat_lt s.at (get_or (sizes layouts) s.row 0) && (needs part to s && (not (owns_spot layouts to s) && (least_owner_of nodes layouts s == from))))
    all-tuples from to s =
        ap (λ count. is_sent_below nodes layouts part count from to s) all
        ∙ and_turned (needs part to s) (nat_lt s.at (get_or (sizes layouts) s.row 0)) (not (owns_spot layouts to s) && (least_owner_of nodes layouts s == from))

    pub messages-from : (from : ℕ) → Noted (replicate nodes []) noted (λ to s. is_sent_below nodes layouts part n from to s)
        → arranged ≡ map (λ to. message nodes layouts part from to) (range_with_len 0 nodes)
    messages-from from notes =
        are-filters nodes layouts noted arranged (λ to s. needs part to s && (not (owns_spot layouts to s) && (least_owner_of nodes layouts s == from))) notes order (λ to s. all-tuples from to s)

    pub messages-to : (to : ℕ) → Noted (replicate nodes []) noted (λ from s. is_sent_below nodes layouts part n from to s)
        → arranged ≡ map (λ from. message nodes layouts part from to) (range_with_len 0 nodes)
    messages-to to notes =
        are-filters nodes layouts noted arranged (λ from s. needs part to s && (not (owns_spot layouts to s) && (least_owner_of nodes layouts s == from))) notes order (λ from s. all-tuples from to s)

-- ---- element by element

-- one row more
pub rows-more : (ns : List ℕ) (row : ℕ) (s : Spot)
    → ((nat_eq row s.row && nat_lt s.at (get_or ns row 0)) || (nat_lt s.row row && nat_lt s.at (get_or ns s.row 0))) ≡ (nat_lt s.row (row + 1) && nat_lt s.at (get_or ns s.row 0))
rows-more ns row s = by_order (cases_order row s.row)
  where
    by_order : (row ≡ s.row) ⊎ ((row < s.row) ⊎ (s.row < row))
        → ((nat_eq row s.row && nat_lt s.at (get_or ns row 0)) || (nat_lt s.row row && nat_lt s.at (get_or ns s.row 0))) ≡ (nat_lt s.row (row + 1) && nat_lt s.at (get_or ns s.row 0))
    by_order (inl same) =
        let size : get_or ns row 0 ≡ get_or ns s.row 0 = ap (λ r. get_or ns r 0) same in
        let here : nat_eq row s.row ≡ true = grind (arith, nat_tests) in
        let before : nat_lt s.row row ≡ false = grind (arith, nat_tests) in
        let upto : nat_lt s.row (row + 1) ≡ true = grind (arith, nat_tests) in
        (λ i. (here i && nat_lt s.at (size i)) || (before i && nat_lt s.at (get_or ns s.row 0))) ∙ or_false (nat_lt s.at (get_or ns s.row 0)) ∙ ap (λ b. b && nat_lt s.at (get_or ns s.row 0)) (sym upto)
    by_order (inr (inl less)) =
        let here : nat_eq row s.row ≡ false = grind (arith, nat_tests) in
        let before : nat_lt s.row row ≡ nat_lt s.row (row + 1) = grind (arith, nat_tests) in
        λ i. (here i && nat_lt s.at (get_or ns row 0)) || (before i && nat_lt s.at (get_or ns s.row 0))
    by_order (inr (inr more)) =
        let here : nat_eq row s.row ≡ false = grind (arith, nat_tests) in
        let before : nat_lt s.row row ≡ nat_lt s.row (row + 1) = grind (arith, nat_tests) in
        λ i. (here i && nat_lt s.at (get_or ns row 0)) || (before i && nat_lt s.at (get_or ns s.row 0))

-- after the last row there is no element
pub all-rows : (layouts : List Layout) (s : Spot) → (nat_lt s.row (length layouts) && nat_lt s.at (get_or (sizes layouts) s.row 0)) ≡ nat_lt s.at (get_or (sizes layouts) s.row 0)
all-rows layouts s = by_case (nat_lt s.row (length layouts)) refl
  where
    by_case : (b : Bool) → nat_lt s.row (length layouts) ≡ b → (b && nat_lt s.at (get_or (sizes layouts) s.row 0)) ≡ nat_lt s.at (get_or (sizes layouts) s.row 0)
    by_case true e = refl
    by_case false e =
        let past : length (sizes layouts) ≤ s.row = grind (arith, nat_tests, length-map layouts size_of) in
        let nothing : nat_lt s.at (get_or (sizes layouts) s.row 0) ≡ false = ap (nat_lt s.at) (get_or_past (sizes layouts) s.row 0 past) ∙ grind (arith, nat_tests) in
        sym nothing
