-- Who computes tuples, by the places of each axis.
use Rattle.std.proofs.Common.{◌≡◌, ℕ, ◌<◌, ◌==◌, ◌&&◌, ◌||◌, Bool, true, false, List, [], ◌∷◌, filter, Option, Some, None, refl, sym, ◌∙◌, ap, arith, eq-eqb}
use Rattle.std.proofs.lemmas.Bool.{eqb-true}
use Rattle.std.specs.List.{list_any, range_with_len}
use Rattle.hpf_base.specs.ElementOrder.{product}
use Rattle.storage.specs.Storage.{Spot}
use Rattle.mappings.proofs.Sections.{same_test}
use Rattle.machine_steps.specs.Layout.{AreOwned, Layout, first, in_bounds, least_owner_of, owned_by, owns_spot, size_of}
use Rattle.machine_steps.specs.Message.{computes_left, least_or_zero}
use Rattle.axis_products.specs.Products.{places_at}
use Rattle.axis_products.specs.Tests.{ArePlaces, Test, holds}
use Rattle.courses.specs.Owners.{IsLaidOut, bounds_test, owner_test}
use Rattle.courses.specs.References.{Named, named_spot}
use Rattle.courses.proofs.Owners.{each-true, element-below, element-named, holds-and, owned-get, owned-named}
use Rattle.visited_tuples.specs.Owned.{owns_in, owns_named}
use Rattle.visited_tuples.specs.Own.{IsOwn}
use Rattle.visited_tuples.proofs.Members.{one-passing}
use Rattle.visited_tuples.proofs.Sent.{clash, dealt-owns}

-- every tuple is in bounds
abbrev pub AreInside : List ℕ → Named → Type 0
AreInside ns r = (t : ℕ) → t < product ns → holds (bounds_test r.dims r.courses) (places_at ns t) ≡ true

false-if : (b : Bool) → (b ≡ true → ⊥) → b ≡ false
false-if true never = absurd (never refl)
false-if false never = refl

module _ (nodes : ℕ) (layouts : List Layout) (ns : List ℕ) (r : Named) (layout : Layout) (id : ℕ)
    (laid : IsLaidOut ns layouts r layout) (inside : AreInside ns r) where
  -- what is named at a tuple
  record Element (t : ℕ) : Type 0 where
    at : ℕ
    below : at < size_of layout
    named : in_bounds layouts (named_spot ns t r) ≡ Some (record { row = r.row; at = at })
    same : (node : ℕ) → owns_spot layouts node (record { row = r.row; at = at }) ≡ owned_by layout node at
    passes : (node : ℕ) → owns_spot layouts node (record { row = r.row; at = at }) ≡ holds (owns_named layouts node r) (places_at ns t)

  element : (t : ℕ) → t < product ns → Element t
  element t small =
      let places = places_at ns t in
      let h = element-named ns layouts r layout laid t (inside t small) in
      record {
        at = h.0;
        below = element-below ns layouts r layout laid t h.0 h.1;
        named = h.2;
        same = λ node. ap (λ g. g node h.0) (owned-get layouts r.row layout laid.row);
        passes = λ node.
            let B : Test = bounds_test r.dims r.courses in
            let O : Test = owner_test layout.mapping node r.courses in
            owned-named ns layouts r layout laid node t h.0 h.1
            ∙ sym (ap (λ o. holds (owns_in o node r) places) laid.row ∙ holds-and B O places ∙ ap (λ b. b && holds O places) (inside t small));
      }

  -- the owners of what is assigned
  pub assigned : (lists : Option (List (List ℕ))) (beside : List ℕ) → ArePlaces (owns_named layouts id r) ns lists
      → ((at : ℕ) → at < size_of layout → owned_by layout id at ≡ true → filter (λ other. owned_by layout other at) (range_with_len 0 nodes) ≡ beside)
      → IsOwn (λ node t. computes_left layouts node (in_bounds layouts (named_spot ns t r))) nodes ns id lists beside
  assigned lists beside are share = record {
    test = owns_named layouts id r;
    places = are;
    own = λ t small. let e = element t small in ap (computes_left layouts id) e.named ∙ e.passes id;
    others = λ t other small within mine theirs.
        let e = element t small in
        let m : owned_by layout id e.at ≡ true = sym (e.same id) ∙ sym (ap (computes_left layouts id) e.named) ∙ mine in
        let o : owned_by layout other e.at ≡ true = sym (e.same other) ∙ sym (ap (computes_left layouts other) e.named) ∙ theirs in
        ap (list_any (λ n. n == other)) (sym (share e.at e.below m))
        ∙ one-passing (λ n. owned_by layout n e.at) 0 nodes other (omega arith) (omega (arith, within)) o;
  }

  module _ (dealt : AreOwned nodes layouts) (leads : Bool)
      (led : (at : ℕ) → at < size_of layout → owned_by layout id at ≡ true → (first (λ other. owned_by layout other at) 0 nodes == id) ≡ leads) where
    abbrev reader : (node tuple : ℕ) → Bool
    reader node t = least_or_zero nodes layouts (in_bounds layouts (named_spot ns t r)) == node

    -- the least owner of what is read owns it, and leads
    reads-own : (t : ℕ) → t < product ns → reader id t ≡ true → (holds (owns_named layouts id r) (places_at ns t) ≡ true) × (leads ≡ true)
    reads-own t small mine =
        let e = element t small in
        let spot : Spot = record { row = r.row; at = e.at } in
        let is : (least_owner_of nodes layouts spot == id) ≡ true = ap (λ o. least_or_zero nodes layouts o == id) (sym e.named) ∙ mine in
        let least : least_owner_of nodes layouts spot ≡ id = eqb-true (least_owner_of nodes layouts spot) id is in
        let owns : owns_spot layouts id spot ≡ true = dealt-owns nodes layouts (named_spot ns t r) spot id dealt e.named least in (
          sym (e.passes id) ∙ owns,
          sym (led e.at e.below (sym (e.same id) ∙ owns)) ∙ ap (λ (P : ℕ → Bool). first P 0 nodes == id) (λ i node. sym (e.same node) i) ∙ is,
        )

    own-reads : (t : ℕ) → t < product ns → leads ≡ true → holds (owns_named layouts id r) (places_at ns t) ≡ true → reader id t ≡ true
    own-reads t small is passes =
        let e = element t small in
        ap (λ o. least_or_zero nodes layouts o == id) e.named
        ∙ ap (λ (P : ℕ → Bool). first P 0 nodes == id) (λ i node. e.same node i)
        ∙ led e.at e.below (sym (e.same id) ∙ e.passes id ∙ passes) ∙ is

    alone : (t other : ℕ) → reader id t ≡ true → reader other t ≡ true → list_any (λ n. n == other) (id ∷ []) ≡ true
    alone t other mine theirs =
        let least = least_or_zero nodes layouts (in_bounds layouts (named_spot ns t r)) in
        let same : id ≡ other = sym (eqb-true least id mine) ∙ eqb-true least other theirs in
        ap (λ b. b || false) (eq-eqb id other same)

    -- the least owner of what is read, where the node is the least owner of what it owns
    pub read : (lists : Option (List (List ℕ))) → leads ≡ true → ArePlaces (owns_named layouts id r) ns lists → IsOwn reader nodes ns id lists (id ∷ [])
    read lists is are = record {
      test = owns_named layouts id r;
      places = are;
      own = λ t small. same_test (reader id t) (holds (owns_named layouts id r) (places_at ns t)) (λ mine. (reads-own t small mine).0) (own-reads t small is);
      others = λ t other small within mine theirs. alone t other mine theirs;
    }

    -- and where it isn't it computes nothing
    pub unread : leads ≡ false → IsOwn reader nodes ns id None (id ∷ [])
    unread isnt = record {
      test = record { always = false; at = λ axis place. true };
      places = λ t. refl;
      own = λ t small. false-if (reader id t) (λ mine. clash (reads-own t small mine).1 isnt);
      others = λ t other small within mine theirs. alone t other mine theirs;
    }

-- node 0 alone
abbrev pub root : (node tuple : ℕ) → Bool
root node t = node == 0

pub root-alone : (nodes : ℕ) (ns : List ℕ) (id : ℕ) (lists : Option (List (List ℕ))) → ArePlaces (record { always = id == 0; at = λ axis place. true }) ns lists
    → IsOwn root nodes ns id lists (id ∷ [])
root-alone nodes ns id lists are = record {
  test = record { always = id == 0; at = λ axis place. true };
  places = are;
  own = λ t small. sym (ap (λ b. (id == 0) && b) (each-true 0 (places_at ns t)) ∙ with_true (id == 0));
  others = λ t other small within mine theirs. ap (λ b. b || false) (eq-eqb id other (eqb-true id 0 mine ∙ sym (eqb-true other 0 theirs)));
}
  where
    with_true : (b : Bool) → (b && true) ≡ b
    with_true true = refl
    with_true false = refl
