-- What is sent of what a reference names, by what is asked of two nodes.
use Rattle.std.proofs.Common.{◌≡◌, ℕ, ◌<◌, ◌==◌, ◌&&◌, ◌||◌, not, slice_index_or, Bool, true, false, if◌then◌else◌, List, [], ◌∷◌, filter, All, Option, Some, None, refl, sym, ◌∙◌, ap, subst, arith}
use Rattle.std.proofs.lemmas.Bool.{eqb-true, lt-ltb}
use Rattle.std.specs.List.{list_any, range_with_len}
use Rattle.hpf_base.specs.ElementOrder.{product}
use Rattle.storage.specs.Storage.{Spot}
use Rattle.machine_steps.specs.Layout.{AreOwned, Layout, first, least_owner_of, owned_by, owns_spot, size_of, sizes}
use Rattle.message_elements.specs.Elements.{is_named, is_sent}
use Rattle.message_elements.proofs.Ascending.{same-true}
use Rattle.axis_products.specs.Products.{places_at}
use Rattle.axis_products.specs.Tests.{Test, and_test, holds}
use Rattle.courses.specs.Owners.{IsLaidOut}
use Rattle.courses.specs.References.{Named, named_spot, place_at_places}
use Rattle.courses.proofs.Owners.{element-below, holds-and, owned-get, size-get}
use Rattle.visited_tuples.specs.Owned.{owns_named}
use Rattle.visited_tuples.specs.Own.{listed_tuples}
use Rattle.visited_tuples.proofs.Members.{all-of, passing-one}
use Rattle.visited_tuples.proofs.Reading.{named-place, owns-named}
use Rattle.visited_tuples.proofs.Sent.{clash, dealt-owns}
use Rattle.visited_tuples.proofs.Taken.{listed}
use Rattle.pair_messages.specs.Enough.{AreEnough, moves_on}
use Rattle.pair_messages.specs.Sent.{is_named_among, is_named_by, is_sent_of}
use Rattle.pair_messages.proofs.Enough.{enough-named, enough-passing, few_test}
use Rattle.pair_messages.proofs.Anys.{and-false, any-none, any-range}

false-if : (b : Bool) → (b ≡ true → ⊥) → b ≡ false
false-if true never = absurd (never refl)
false-if false never = refl

named-is : (o : Option Spot) (spot : Spot) → is_named o spot ≡ true → o ≡ Some spot
named-is None spot named = absurd cc
named-is (Some s) spot named = ap Some (same-true s spot named)

-- a test of each that is one test of those that count
any-by : (c n h : ℕ → Bool) (sent sends : Bool) (ts : List ℕ) → ((t : ℕ) → n t ≡ true → sent ≡ (sends && h t))
    → (list_any (λ t. c t && n t) ts && sent) ≡ (sends && list_any (λ t. (c t && h t) && n t) ts)
any-by c n h sent true [] is = refl
any-by c n h sent false [] is = refl
any-by c n h sent sends (t ∷ ts) is =
    by_case (c t) (n t) refl (list_any (λ t. c t && n t) ts) (list_any (λ t. (c t && h t) && n t) ts) (any-by c n h sent sends ts is)
  where
    joined : (s a b rest later : Bool) → s ≡ (sends && b) → (rest && s) ≡ (sends && later) → ((a || rest) && s) ≡ (sends && ((a && b) || later))
    joined s true true rest later now next = now
    joined s true false rest later now next = let no : s ≡ false = now ∙ and-false sends in no ∙ sym (sym next ∙ ap (λ b. rest && b) no ∙ and-false rest)
    joined s false b rest later now next = next

    and-true : (x : Bool) → (x && true) ≡ x
    and-true true = refl
    and-true false = refl

    by_case : (a m : Bool) → n t ≡ m → (rest later : Bool) → (rest && sent) ≡ (sends && later)
        → (((a && n t) || rest) && sent) ≡ (sends && (((a && h t) && n t) || later))
    by_case a true named rest later next =
        ap (λ b. ((a && b) || rest) && sent) named ∙ ap (λ b. (b || rest) && sent) (and-true a)
        ∙ joined sent a (h t) rest later (is t named) next
        ∙ ap (λ b. sends && (b || later)) (sym (and-true (a && h t))) ∙ ap (λ b. sends && (((a && h t) && b) || later)) (sym named)
    by_case a false named rest later next =
        ap (λ b. ((a && b) || rest) && sent) named ∙ ap (λ b. (b || rest) && sent) (and-false a)
        ∙ next
        ∙ ap (λ b. sends && (b || later)) (sym (and-false (a && h t))) ∙ ap (λ b. sends && (((a && h t) && b) || later)) (sym named)

module _ (nodes : ℕ) (layouts : List Layout) (ns : List ℕ) (r : Named) (layout : Layout) (from to : ℕ)
    (laid : IsLaidOut ns layouts r layout) (dealt : AreOwned nodes layouts) (sends : Bool)
    (are : (at : ℕ) → at < size_of layout → owned_by layout from at ≡ true
    → sends ≡ ((first (λ other. owned_by layout other at) 0 nodes == from) && not (owned_by layout to at))) where
  -- what is named at a tuple
  sent-if : (t : ℕ) (spot : Spot) → named_spot ns t r ≡ Some spot → is_sent nodes layouts from to spot ≡ (sends && holds (owns_named layouts from r) (places_at ns t))
  sent-if t spot named =
      let h = named-place r.row (place_at_places r (places_at ns t)) spot named in
      let below : h.0 < size_of layout = element-below ns layouts r layout laid t h.0 h.1 in
      let same : (node : ℕ) → owned_by layout node h.0 ≡ owns_spot layouts node spot = λ node.
      ap (λ o. o node h.0) (sym (owned-get layouts r.row layout laid.row)) ∙ ap (owns_spot layouts node) h.2 in
      let fits : spot.at < slice_index_or (sizes layouts) spot.row 0 =
      subst (λ (s : Spot). s.at < slice_index_or (sizes layouts) s.row 0) h.2 (subst (λ n. h.0 < n) (sym (size-get layouts r.row layout laid.row)) below) in
      ap (λ b. b && (not (owns_spot layouts to spot) && (least_owner_of nodes layouts spot == from))) (lt-ltb spot.at (slice_index_or (sizes layouts) spot.row 0) fits)
      ∙ by_owner (owns_spot layouts from spot) refl
      (λ mine. are h.0 below (same from ∙ mine) ∙ ap (λ (P : ℕ → Bool). (first P 0 nodes == from) && not (P to)) (λ i node. same node i))
      (λ least. dealt-owns nodes layouts (Some spot) spot from dealt
      (ap (λ b. if b then Some spot else None) (lt-ltb spot.at (slice_index_or (sizes layouts) spot.row 0) fits)) (eqb-true (least_owner_of nodes layouts spot) from least))
      ∙ ap (λ b. sends && b) (owns-named ns layouts r layout from t spot laid named)
    where
      turned : (o l : Bool) → (not o && l) ≡ ((l && not o) && true)
      turned true true = refl
      turned true false = refl
      turned false true = refl
      turned false false = refl

      by_owner : (mine : Bool) → owns_spot layouts from spot ≡ mine
          → (owns_spot layouts from spot ≡ true → sends ≡ ((least_owner_of nodes layouts spot == from) && not (owns_spot layouts to spot)))
          → ((least_owner_of nodes layouts spot == from) ≡ true → owns_spot layouts from spot ≡ true)
          → (not (owns_spot layouts to spot) && (least_owner_of nodes layouts spot == from)) ≡ (sends && owns_spot layouts from spot)
      by_owner true mine leads least =
          turned (owns_spot layouts to spot) (least_owner_of nodes layouts spot == from) ∙ ap (λ b. b && true) (sym (leads mine)) ∙ ap (λ b. sends && b) (sym mine)
      by_owner false mine leads least =
          ap (λ b. not (owns_spot layouts to spot) && b) (false-if (least_owner_of nodes layouts spot == from) (λ is. clash (least is) mine))
          ∙ and-false (not (owns_spot layouts to spot)) ∙ sym (ap (λ b. sends && b) mine ∙ and-false sends)

  -- it is sent at the tuples at which the taker computes and the sender owns it, if the one sends what it owns to the other
  of-read : (computed : Test) (spot : Spot) → is_sent_of nodes layouts ns computed from to r spot
      ≡ (sends && list_any (λ t. holds (and_test computed (owns_named layouts from r)) (places_at ns t) && is_named_by ns r t spot) (range_with_len 0 (product ns)))
  of-read computed spot =
      any-by (λ t. holds computed (places_at ns t)) (λ t. is_named_by ns r t spot) (λ t. holds (owns_named layouts from r) (places_at ns t))
      (is_sent nodes layouts from to spot) sends (range_with_len 0 (product ns)) (λ t named. sent-if t spot (named-is (named_spot ns t r) spot named))
      ∙ (λ i. sends && list_any (λ t. sym (holds-and computed (owns_named layouts from r) (places_at ns t)) i && is_named_by ns r t spot) (range_with_len 0 (product ns)))

  pub unsent : (computed : Test) (spot : Spot) → sends ≡ false → is_sent_of nodes layouts ns computed from to r spot ≡ false
  unsent computed spot isnt =
      of-read computed spot
      ∙ ap (λ b. b && list_any (λ t. holds (and_test computed (owns_named layouts from r)) (places_at ns t) && is_named_by ns r t spot) (range_with_len 0 (product ns))) isnt

  pub sent-listed : (computed : Test) (lists : Option (List (List ℕ))) (spot : Spot) → sends ≡ true
      → AreEnough (moves_on r.courses) (and_test computed (owns_named layouts from r)) ns lists
      → is_sent_of nodes layouts ns computed from to r spot ≡ is_named_among ns r (listed_tuples ns lists) spot
  sent-listed computed None spot is none =
      let c : Test = and_test computed (owns_named layouts from r) in
      of-read computed spot
      ∙ ap (λ b. b && list_any (λ t. holds c (places_at ns t) && is_named_by ns r t spot) (range_with_len 0 (product ns))) is
      ∙ any-range (λ t. holds c (places_at ns t) && is_named_by ns r t spot) (λ t. false) 0 (product ns)
      (λ t low high. ap (λ b. b && is_named_by ns r t spot) (none t (omega (arith, high))))
      ∙ any-none (λ t. false) (range_with_len 0 (product ns)) (λ t. refl)
  sent-listed computed (Some lists) spot is are =
      let c : Test = and_test computed (owns_named layouts from r) in
      of-read computed spot
      ∙ ap (λ b. b && list_any (λ t. holds c (places_at ns t) && is_named_by ns r t spot) (range_with_len 0 (product ns))) is
      ∙ enough-named ns r c lists spot are.0 are.1

-- the tuples of lists are tuples of the space
pub listed-below : (asked : ℕ → Bool) (c : Test) (ns : List ℕ) (lists : List (List ℕ)) → AreEnough asked c ns (Some lists)
    → All (λ t. t < product ns) (listed_tuples ns (Some lists))
listed-below asked c ns lists are =
    let few : Test = few_test asked c lists in
    subst (All (λ t. t < product ns)) (listed few ns (Some lists) (are.0, enough-passing asked c.at ns lists are.1))
    (all-of (λ t. t < product ns) (filter (λ t. holds few (places_at ns t)) (range_with_len 0 (product ns)))
    (λ t any. let h = passing-one (λ t. holds few (places_at ns t)) 0 (product ns) t any in let b = h.0 in omega (arith, b)))
