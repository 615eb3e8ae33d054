-- The tuples at which a node may send what a reference names.
use Rattle.std.proofs.Common.{◌≡◌, ℕ, zero, suc, ◌+◌, ◌<◌, ◌≤◌, ◌==◌, ◌&&◌, not, Bool, true, false, if◌then◌else◌, List, [], filter, nat_lt, slice_index_or, Option, Some, None, All, refl, sym, ◌∙◌, ap, subst, arith, eq-eqb}
use Rattle.std.proofs.lemmas.Bool.{eqb-true, ltb-true}
use Rattle.std.proofs.lemmas.List.Elements.{All-nil}
use Rattle.std.proofs.lemmas.Option.{cond_some, none-some}
use Rattle.std.specs.List.{list_any, range_with_len}
use Rattle.hpf_base.specs.ElementOrder.{product}
use Rattle.storage.specs.Storage.{Spot}
use Rattle.machine_steps.specs.Layout.{AreOwned, Layout, first, in_bounds, least_owner_of, owned_by, owns_spot, size_of, sizes}
use Rattle.axis_products.specs.Products.{each, passing, places_at}
use Rattle.axis_products.specs.Tests.{ArePlaces, holds}
use Rattle.message_elements.specs.Elements.{is_sent}
use Rattle.courses.specs.Owners.{IsLaidOut}
use Rattle.courses.specs.References.{Named, named_spot, place_at_places}
use Rattle.courses.proofs.Owners.{element-below, owned-get}
use Rattle.courses.proofs.Sections.{both}
use Rattle.visited_tuples.specs.Owned.{owns_named}
use Rattle.visited_tuples.specs.Own.{IsOwn, listed_tuples}
use Rattle.visited_tuples.specs.Visited.{IsSendingOf}
use Rattle.visited_tuples.proofs.Members.{all-of, is-one, one-passing, passing-one}
use Rattle.visited_tuples.proofs.Reading.{named-place, owns-named}
use Rattle.visited_tuples.proofs.Taken.{holds-each, listed}

pub not-true : (b : Bool) → not b ≡ true → b ≡ false
not-true true e = sym e
not-true false e = refl

pub clash : {b : Bool} {A : Type 0} → b ≡ true → b ≡ false → A
clash is isnt = let e : true ≡ false = sym is ∙ isnt in absurd cc

-- the first that passes does, where one passes
first-passes : (P : ℕ → Bool) (lo len n : ℕ) → lo ≤ n → n < lo + len → P n ≡ true → P (first P lo len) ≡ true
first-passes P lo zero n from below passes = absurd (omega arith)
first-passes P lo (suc len) n from below passes =
    by_case (P lo) refl (λ above. first-passes P (lo + 1) len n (omega (arith, above, from)) (omega (arith, below)) passes)
  where
    by_case : (b : Bool) → P lo ≡ b → ((lo ≡ n → ⊥) → P (first P (lo + 1) len) ≡ true) → P (if b then lo else first P (lo + 1) len) ≡ true
    by_case true is rest = is
    by_case false is rest = rest (λ same. clash (ap P same ∙ passes) is)

-- the least owner of what is in bounds owns it
pub dealt-owns : (nodes : ℕ) (layouts : List Layout) (o : Option Spot) (spot : Spot) (node : ℕ) → AreOwned nodes layouts → in_bounds layouts o ≡ Some spot
    → least_owner_of nodes layouts spot ≡ node → owns_spot layouts node spot ≡ true
dealt-owns nodes layouts None spot node dealt e least = absurd (none-some spot e)
dealt-owns nodes layouts (Some s) spot node dealt e least =
    let h = cond_some (nat_lt s.at (slice_index_or (sizes layouts) s.row 0)) s spot e in
    let owner = dealt spot (subst (λ s. s.at < slice_index_or (sizes layouts) s.row 0) h.1 (ltb-true s.at (slice_index_or (sizes layouts) s.row 0) h.0)) in
    ap (λ n. owns_spot layouts n spot) (sym least)
    ∙ first-passes (λ n. owns_spot layouts n spot) 0 nodes owner.0 (omega arith) (let b = owner.1 in omega (arith, b)) owner.2

module _ (nodes : ℕ) (layouts : List Layout) (ns : List ℕ) (r : Named) (layout : Layout) (id : ℕ)
    (laid : IsLaidOut ns layouts r layout) (dealt : AreOwned nodes layouts) where
  -- what is known where the node sends what is named at a tuple
  record Sent (t other : ℕ) (spot : Spot) : Type 0 where
    at : ℕ
    below : at < size_of layout
    same : (node : ℕ) → owned_by layout node at ≡ owns_spot layouts node spot
    mine : owns_spot layouts id spot ≡ true
    theirs : owns_spot layouts other spot ≡ false
    least : first (λ node. owned_by layout node at) 0 nodes ≡ id
    holds : holds (owns_named layouts id r) (places_at ns t) ≡ true

  sent : (t other : ℕ) (spot : Spot) → named_spot ns t r ≡ Some spot → is_sent nodes layouts id other spot ≡ true → Sent t other spot
  sent t other spot named sends =
      let e = both (nat_lt spot.at (slice_index_or (sizes layouts) spot.row 0)) (not (owns_spot layouts other spot) && (least_owner_of nodes layouts spot == id)) sends in
      let g = both (not (owns_spot layouts other spot)) (least_owner_of nodes layouts spot == id) e.1 in
      let least : least_owner_of nodes layouts spot ≡ id = eqb-true (least_owner_of nodes layouts spot) id g.1 in
      let h = named-place r.row (place_at_places r (places_at ns t)) spot named in
      let owner = dealt spot (ltb-true spot.at (slice_index_or (sizes layouts) spot.row 0) e.0) in
      let same : (node : ℕ) → owned_by layout node h.0 ≡ owns_spot layouts node spot = λ node.
      ap (λ o. o node h.0) (sym (owned-get layouts r.row layout laid.row)) ∙ ap (owns_spot layouts node) h.2 in
      let mine : owns_spot layouts id spot ≡ true =
      ap (λ n. owns_spot layouts n spot) (sym least) ∙ first-passes (λ n. owns_spot layouts n spot) 0 nodes owner.0 (omega arith) (let b = owner.1 in omega (arith, b)) owner.2 in
      record {
        at = h.0;
        below = element-below ns layouts r layout laid t h.0 h.1;
        same = same;
        mine = mine;
        theirs = not-true (owns_spot layouts other spot) g.0;
        least = ap (λ (P : ℕ → Bool). first P 0 nodes) (λ i node. same node i) ∙ least;
        holds = sym (owns-named ns layouts r layout id t spot laid named) ∙ mine;
      }

  -- a node that isn't the least owner of what it owns sends nothing
  pub least-alone : (computes : (node tuple : ℕ) → Bool)
      → ((at : ℕ) → at < size_of layout → owned_by layout id at ≡ true → (first (λ other. owned_by layout other at) 0 nodes == id) ≡ false)
      → IsSendingOf computes nodes layouts ns r id []
  least-alone computes never = record {
    below = All-nil (λ t. t < product ns);
    every = λ t other spot small inside theirs named sends.
        let h = sent t other spot named sends in
        clash (eq-eqb (first (λ node. owned_by layout node h.at) 0 nodes) id h.least) (never h.at h.below (h.same id ∙ h.mine));
  }

  -- what all others own too isn't sent
  pub all-own : (computes : (node tuple : ℕ) → Bool)
      → ((at : ℕ) → at < size_of layout → owned_by layout id at ≡ true → (other : ℕ) → other < nodes → owned_by layout other at ≡ true)
      → IsSendingOf computes nodes layouts ns r id []
  all-own computes every = record {
    below = All-nil (λ t. t < product ns);
    every = λ t other spot small inside theirs named sends.
        let h = sent t other spot named sends in
        clash (sym (h.same other) ∙ every h.at h.below (h.same id ∙ h.mine) other inside) h.theirs;
  }

  -- where it owns none of what is named it sends nothing, and else at tuples where it owns what is named
  pub own-listed : (computes : (node tuple : ℕ) → Bool) (lists : Option (List (List ℕ))) → ArePlaces (owns_named layouts id r) ns lists
      → IsSendingOf computes nodes layouts ns r id (listed_tuples ns lists)
  own-listed computes lists are = subst (IsSendingOf computes nodes layouts ns r id) (listed (owns_named layouts id r) ns lists are) record {
    below = all-of (λ t. t < product ns) (filter (λ t. holds (owns_named layouts id r) (places_at ns t)) (range_with_len 0 (product ns)))
        (λ t any. let h = passing-one (λ t. holds (owns_named layouts id r) (places_at ns t)) 0 (product ns) t any in let b = h.0 in omega (arith, b));
    every = λ t other spot small inside theirs named sends.
        one-passing (λ t. holds (owns_named layouts id r) (places_at ns t)) 0 (product ns) t (omega arith) (omega (arith, small)) (sent t other spot named sends).holds;
  }

  -- and where the nodes that compute its own tuples own what it owns, not at these
  pub own-beyond : (computes : (node tuple : ℕ) → Bool) (lists owned : List (List ℕ)) (beside ts : List ℕ)
      → IsOwn computes nodes ns id (Some lists) beside → ArePlaces (owns_named layouts id r) ns (Some owned)
      → ((at : ℕ) → at < size_of layout → owned_by layout id at ≡ true → (other : ℕ) → other < nodes → list_any (λ n. n == other) beside ≡ true → owned_by layout other at ≡ true)
      → All (λ t. t < product ns) ts
      → ((a b : ℕ → ℕ → Bool) → owned ≡ passing a 0 ns → lists ≡ passing b 0 ns → (t : ℕ) → t < product ns
      → is-one ts t ≡ (each a 0 (places_at ns t) && not (each b 0 (places_at ns t))))
      → IsSendingOf computes nodes layouts ns r id ts
  own-beyond computes lists owned beside ts own are as_well below is = record {
    below = below;
    every = λ t other spot small inside theirs named sends.
        let h = sent t other spot named sends in
        let c = owns_named layouts id r in
        is c.at own.test.at are.1 own.places.1 t small
        ∙ ap (λ x. x && not (each own.test.at 0 (places_at ns t))) (sym (holds-each c (places_at ns t) are.0) ∙ h.holds)
        ∙ apart (each own.test.at 0 (places_at ns t)) refl (λ e.
        let mine : computes id t ≡ true = own.own t small ∙ holds-each own.test (places_at ns t) own.places.0 ∙ e in
        sym (h.same other) ∙ as_well h.at h.below (h.same id ∙ h.mine) other inside (own.others t other small inside mine theirs)) h.theirs;
  }
    where
      apart : (e : Bool) {x o : Bool} → x ≡ e → (x ≡ true → o ≡ true) → o ≡ false → not e ≡ true
      apart true is owns isnt = clash (owns is) isnt
      apart false is owns isnt = refl
