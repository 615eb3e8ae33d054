-- What one node sends another at a redistribution, row by row.
use Rattle.std.proofs.Common.{◌≡◌, ℕ, ◌+◌, ◌<◌, ◌≤◌, ◌==◌, nat_eq, nat_lt, ◌&&◌, ◌||◌, not, ◌⊎◌, inl, inr, Bool, true, false, List, filter, get_or, length, map, take, refl, sym, ◌∙◌, ap, subst, arith}
use Rattle.std.proofs.lemmas.Bool.{and_parts, cases_order, eqb-true, ltb-true}
use Rattle.std.proofs.lemmas.Bool.Decides.{nat_tests}
use Rattle.std.proofs.lemmas.List.{get_or_past, length-map}
use Rattle.std.proofs.lemmas.List.Folds.{list_any_more}
use Rattle.std.specs.List.{list_any, range_with_len}
use Rattle.hpf_base.specs.ElementOrder.{product}
use Rattle.expression_rules.specs.declared.dims.Dim.{Dim}
use Rattle.expression_rules.specs.Dims.{extent}
use Rattle.storage.specs.Storage.{Spot}
use Rattle.machine_steps.specs.Layout.{AreOwned, Layout, least_owner_of, owned_in, owns_spot, size_of, sizes}
use Rattle.owner_tables.proofs.Senders.{least-owns}
use Rattle.message_elements.specs.Elements.{is_named, is_sent}
use Rattle.message_elements.proofs.AllSpots.{both-tests}
use Rattle.axis_products.specs.Products.{places_at}
use Rattle.axis_products.specs.Tests.{holds}
use Rattle.courses.specs.Owners.{IsLaidOut}
use Rattle.courses.specs.References.{Named}
use Rattle.courses.proofs.Owners.{size-get}
use Rattle.visited_tuples.specs.Owned.{Lies, owns_named}
use Rattle.visited_tuples.proofs.Reading.{owns-named}
use Rattle.pair_messages.specs.Moved.{is_moved, named_row}
use Rattle.pair_messages.specs.Sent.{is_named_by, is_sent_of}
use Rattle.pair_messages.proofs.Anys.{and-false, any-filter, any-none, any-range}
use Rattle.pair_messages.proofs.OwnRows.{own-element, own-size}
use Rattle.pair_messages.proofs.Sharers.{is-passing}

and-true : (b : Bool) → (b && true) ≡ b
and-true true = refl
and-true false = refl

-- ---- what is known of an element that is sent

module _ (nodes : ℕ) (old : List Layout) (from to : ℕ) (s : Spot) (sent : is_sent nodes old from to s ≡ true) where
  abbrev parts : (nat_lt s.at (get_or (sizes old) s.row 0) ≡ true) × ((not (owns_spot old to s) && (least_owner_of nodes old s == from)) ≡ true)
  parts = and_parts (nat_lt s.at (get_or (sizes old) s.row 0)) (not (owns_spot old to s) && (least_owner_of nodes old s == from)) sent

  pub sent-inside : s.at < get_or (sizes old) s.row 0
  sent-inside = ltb-true s.at (get_or (sizes old) s.row 0) parts.0

  -- the sender owns it
  pub sent-owned : AreOwned nodes old → owns_spot old from s ≡ true
  sent-owned owned =
      let least = (and_parts (not (owns_spot old to s)) (least_owner_of nodes old s == from) parts.1).1 in
      subst (λ node. owns_spot old node s ≡ true) (eqb-true (least_owner_of nodes old s) from least) (least-owns nodes old owned s sent-inside)

-- ---- by the places of a row's own dimensions

any-at : (P : ℕ → Bool) (n x : ℕ) → x < n → list_any (λ t. P t && (t == x)) (range_with_len 0 n) ≡ P x
any-at P n x within = sym (any-filter (λ t. t == x) P (range_with_len 0 n)) ∙ is-passing P n x within

module _ (nodes : ℕ) (old new : List Layout) (ds : List Dim) (row from to : ℕ) (before after : Layout)
    (laid : IsLaidOut (map extent ds) old (named_row ds row) before) (later : IsLaidOut (map extent ds) new (named_row ds row) after) where
  abbrev ns : List ℕ
  ns = map extent ds

  abbrev own : Named
  own = named_row ds row

  at-tuple : (s : Spot) (t : ℕ) → t < product ns
      → (holds (owns_named new to own) (places_at ns t) && is_named_by ns own t s) ≡ (owned_in new row to t && (nat_eq row s.row && nat_eq t s.at))
  at-tuple s t below =
      let named = own-element ds row t below in
      ap (λ b. b && is_named_by ns own t s) (sym (owns-named ns new own after to t (record { row = row; at = t }) later named))
      ∙ ap (λ o. owned_in new row to t && is_named o s) named

  in-row : (s : Spot) (b : Bool) → nat_eq row s.row ≡ b → (row ≡ s.row → s.at < product ns)
      → list_any (λ t. owned_in new row to t && (b && nat_eq t s.at)) (range_with_len 0 (product ns)) ≡ (b && owns_spot new to s)
  in-row s true same within =
      let is = eqb-true row s.row same in
      any-at (owned_in new row to) (product ns) s.at (within is) ∙ ap (λ r. owned_in new r to s.at) is
  in-row s false other within = any-none (λ t. owned_in new row to t && false) (range_with_len 0 (product ns)) (λ t. and-false (owned_in new row to t))

  -- what is sent of its elements, by how they lie before, where the taker owns them after
  of-own : (s : Spot) → is_sent_of nodes old ns (owns_named new to own) from to own s ≡ (nat_eq row s.row && is_moved nodes old new from to s)
  of-own s =
      ap (λ b. b && is_sent nodes old from to s)
      (any-range (λ t. holds (owns_named new to own) (places_at ns t) && is_named_by ns own t s) (λ t. owned_in new row to t && (nat_eq row s.row && nat_eq t s.at)) 0 (product ns)
      (λ t low high. let below : t < product ns = omega (arith, high) in at-tuple s t below))
      ∙ by_sent (is_sent nodes old from to s) refl
    where
      passing : Bool
      passing = list_any (λ t. owned_in new row to t && (nat_eq row s.row && nat_eq t s.at)) (range_with_len 0 (product ns))

      by_sent : (b : Bool) → is_sent nodes old from to s ≡ b → (passing && b) ≡ (nat_eq row s.row && (b && owns_spot new to s))
      by_sent false unsent = and-false passing ∙ sym (and-false (nat_eq row s.row))
      by_sent true sent =
          and-true passing
          ∙ in-row s (nat_eq row s.row) refl (λ same.
          subst (λ n. s.at < n) (ap (λ r. get_or (sizes old) r 0) (sym same) ∙ size-get old row before laid.row ∙ own-size ds before laid.shape)
          (sent-inside nodes old from to s sent))

-- the same of a reference that is this one
pub of-row : (nodes : ℕ) (old new : List Layout) (ds : List Dim) (row from to : ℕ) (ns : List ℕ) (r : Named) → r ≡ named_row ds row → ns ≡ map extent ds
    → Lies ns old r → Lies ns new r → (s : Spot) → is_sent_of nodes old ns (owns_named new to r) from to r s ≡ (nat_eq row s.row && is_moved nodes old new from to s)
of-row nodes old new ds row from to ns r is extents lies later s =
    let at-own : (layouts : List Layout) → Lies ns layouts r → Lies (map extent ds) layouts (named_row ds row) =
    λ layouts l. subst (λ q. Lies (map extent ds) layouts q) is (subst (λ es. Lies es layouts r) extents l) in
    let one = at-own old lies in
    let other = at-own new later in
    (λ i. is_sent_of nodes old (extents i) (owns_named new to (is i)) from to (is i) s)
    ∙ of-own nodes old new ds row from to one.0 other.0 one.1 other.1 s

-- ---- by the elements that the sender owns

both-within : (within a b : Bool) → ((within && a) || (within && b)) ≡ (within && (a || b))
both-within true a b = refl
both-within false a b = refl

or-turned : (a b : Bool) → (a || b) ≡ (b || a)
or-turned true true = refl
or-turned true false = refl
or-turned false true = refl
or-turned false false = refl

-- one of them more
pub element-more : (ps : List ℕ) (i : ℕ) (row : ℕ) (s : Spot) (moved : Bool) → i < length ps
    → (((nat_eq row s.row && nat_eq (get_or ps i 0) s.at) && moved) || ((nat_eq row s.row && list_any (λ at. nat_eq at s.at) (take i ps)) && moved))
    ≡ ((nat_eq row s.row && list_any (λ at. nat_eq at s.at) (take (i + 1) ps)) && moved)
element-more ps i row s moved inside =
    let here = nat_eq (get_or ps i 0) s.at in
    let so_far = list_any (λ at. nat_eq at s.at) (take i ps) in
    both-tests (nat_eq row s.row && here) (nat_eq row s.row && so_far) moved
    ∙ ap (λ b. b && moved) (both-within (nat_eq row s.row) here so_far
    ∙ ap (λ b. nat_eq row s.row && b) (or-turned here so_far ∙ sym (list_any_more (λ at. nat_eq at s.at) ps i 0 inside)))

-- all that is sent is among them
pub all-elements : (nodes : ℕ) (old new : List Layout) (from to row : ℕ) (s : Spot) → AreOwned nodes old
    → ((nat_eq row s.row && list_any (λ at. nat_eq at s.at) (filter (owned_in old row from) (range_with_len 0 (get_or (sizes old) row 0)))) && is_moved nodes old new from to s)
    ≡ (nat_eq row s.row && is_moved nodes old new from to s)
all-elements nodes old new from to row s owned = by_sent (is_sent nodes old from to s) refl (nat_eq row s.row) refl
  where
    found : Bool
    found = list_any (λ at. nat_eq at s.at) (filter (owned_in old row from) (range_with_len 0 (get_or (sizes old) row 0)))

    by_sent : (b : Bool) → is_sent nodes old from to s ≡ b → (e : Bool) → nat_eq row s.row ≡ e
        → ((e && found) && (b && owns_spot new to s)) ≡ (e && (b && owns_spot new to s))
    by_sent b is false other = refl
    by_sent false unsent true same = and-false found
    by_sent true sent true same =
        let is = eqb-true row s.row same in
        let inside : s.at < get_or (sizes old) row 0 = subst (λ r. s.at < get_or (sizes old) r 0) (sym is) (sent-inside nodes old from to s sent) in
        ap (λ b. b && owns_spot new to s)
        (is-passing (owned_in old row from) (get_or (sizes old) row 0) s.at inside ∙ ap (λ r. owned_in old r from s.at) is ∙ sent-owned nodes old from to s sent owned)

-- ---- row by row

-- one row more
pub row-more : (row k : ℕ) (moved : Bool) → ((nat_eq row k && moved) || (nat_lt k row && moved)) ≡ (nat_lt k (row + 1) && moved)
row-more row k moved = both-tests (nat_eq row k) (nat_lt k row) moved ∙ ap (λ b. b && moved) (by_order (cases_order row k))
  where
    by_order : (row ≡ k) ⊎ ((row < k) ⊎ (k < row)) → (nat_eq row k || nat_lt k row) ≡ nat_lt k (row + 1)
    by_order (inl same) =
        let here : nat_eq row k ≡ true = grind (arith, nat_tests) in
        let upto : nat_lt k (row + 1) ≡ true = grind (arith, nat_tests) in
        ap (λ b. b || nat_lt k row) here ∙ sym upto
    by_order (inr (inl less)) =
        let here : nat_eq row k ≡ false = grind (arith, nat_tests) in
        let before : nat_lt k row ≡ nat_lt k (row + 1) = grind (arith, nat_tests) in
        ap (λ b. b || nat_lt k row) here ∙ before
    by_order (inr (inr more)) =
        let here : nat_eq row k ≡ false = grind (arith, nat_tests) in
        let before : nat_lt k row ≡ nat_lt k (row + 1) = grind (arith, nat_tests) in
        ap (λ b. b || nat_lt k row) here ∙ before

-- an element that is sent is one of a row
pub all-rows : (nodes : ℕ) (old new : List Layout) (from to : ℕ) (s : Spot) → (nat_lt s.row (length old) && is_moved nodes old new from to s) ≡ is_moved nodes old new from to s
all-rows nodes old new from to s = by_row (nat_lt s.row (length old)) refl (is_sent nodes old from to s) refl
  where
    by_row : (b : Bool) → nat_lt s.row (length old) ≡ b → (sent : Bool) → is_sent nodes old from to s ≡ sent
        → (b && (sent && owns_spot new to s)) ≡ (sent && owns_spot new to s)
    by_row true within sent is = refl
    by_row false past false is = refl
    by_row false past true is =
        let beyond : length (sizes old) ≤ s.row = grind (arith, nat_tests, length-map old size_of) in
        let none = get_or_past (sizes old) s.row 0 beyond in
        let inside = sent-inside nodes old from to s is in
        absurd (omega (arith, none, inside))

-- in the order of the definition
pub regrouped : (within sent owns : Bool) → ((within && sent) && owns) ≡ (within && (owns && sent))
regrouped true true owns = sym (and-true owns)
regrouped true false owns = sym (and-false owns)
regrouped false sent owns = refl
