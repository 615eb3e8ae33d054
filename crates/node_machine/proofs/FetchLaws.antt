-- The messages of the phase in which all nodes fetch one element.
use Rattle.std.proofs.Common.{nat_eq, ◌≡◌, ℕ, zero, suc, ◌+◌, ◌<◌, ◌≤◌, ◌==◌, ◌&&◌, not, Bool, true, false, if◌then◌else◌, ℤ, pos, List, [], ◌∷◌, ◌++◌, map, get_or, slice_index_or, refl, sym, ◌∙◌, ap, subst, arith, ⊎_elim, eq-eqb, ne_eqb}
use Rattle.std.specs.List.{range_with_len, filter}
use Rattle.std.proofs.lemmas.Bool.{eqb-true, cases_eq}
use Rattle.std.proofs.lemmas.List.Elements.{filter-append}
use Rattle.storage.specs.Storage.{Spot, Storage}
use Rattle.storage.specs.Storage.{is_same_spot}
use Rattle.machine_steps.specs.Layout.{Layout, least_owner_of, owns_spot, sizes}
use Rattle.machine_steps.specs.Message.{fetch_part, has_any, lookup, message, needs, spots_from}
use Rattle.machine_steps.specs.Node.{held_or_received, local_read, parcel, part_sends}
use Rattle.machine_steps.proofs.Owners.{spot-below}
use Rattle.node_machine.specs.Fetches.{fetch_sends}

same-spot : (x s : Spot) → is_same_spot x s ≡ true → x ≡ s
same-spot x s h = by_case (nat_eq x.row s.row) (nat_eq x.at s.at) refl refl h
  where
    by_case : (a b : Bool) → nat_eq x.row s.row ≡ a → nat_eq x.at s.at ≡ b → (a && b) ≡ true → x ≡ s
    by_case true true ea eb h = let e = eqb-true x.row s.row ea in let f = eqb-true x.at s.at eb in λ i. record { row = e i; at = f i }
    by_case true false ea eb h = cc
    by_case false b ea eb h = cc

spot-itself : (s : Spot) → is_same_spot s s ≡ true
spot-itself s = rw (eq-eqb s.row s.row refl, eq-eqb s.at s.at refl) refl

abbrev in_row : ℕ → ℕ → Spot
in_row row at = record { row = row; at = at }

other-row : (x : Spot) (row at : ℕ) → (x.row ≡ row → ⊥) → is_same_spot x (in_row row at) ≡ false
other-row x row at ne = rw (ne_eqb x.row row ne) refl

other-place : (x : Spot) (row at : ℕ) → (x.at ≡ at → ⊥) → is_same_spot x (in_row row at) ≡ false
other-place x row at ne = by_case (nat_eq x.row row)
  where
    by_case : (b : Bool) → (b && nat_eq x.at at) ≡ false
    by_case true = ne_eqb x.at at ne
    by_case false = refl

none-pass : {A : Type 0} (P : A → Bool) (xs : List A) → ((x : A) → P x ≡ false) → filter P xs ≡ []
none-pass P [] none = refl
none-pass P (x ∷ xs) none = rw (none x) (none-pass P xs none)

-- a test that is true of one element alone keeps that element
module _ (P : Spot → Bool) (spot : Spot) (is : (s : Spot) → P s ≡ is_same_spot spot s) where
  row-none : (row n lo : ℕ) → (spot.row ≡ row → ⊥) → filter P (map (in_row row) (range_with_len lo n)) ≡ []
  row-none row zero lo ne = refl
  row-none row (suc n) lo ne = rw (is (in_row row lo), other-row spot row lo ne) (row-none row n (lo + 1) ne)

  row-past : (row n lo : ℕ) → spot.at < lo → filter P (map (in_row row) (range_with_len lo n)) ≡ []
  row-past row zero lo lt = refl
  row-past row (suc n) lo lt = rw (is (in_row row lo), other-place spot row lo (λ e. omega (arith, e, lt))) (row-past row n (lo + 1) (omega arith))

  row-one : (row n lo : ℕ) → spot.row ≡ row → lo ≤ spot.at → spot.at < lo + n → filter P (map (in_row row) (range_with_len lo n)) ≡ spot ∷ []
  row-one row zero lo e le lt = absurd (omega arith)
  row-one row (suc n) lo e le lt = ⊎_elim
      (λ (at : spot.at ≡ lo).
      let same : spot ≡ in_row row lo = λ i. record { row = e i; at = at i } in
      rw (is (in_row row lo) ∙ ap (is_same_spot spot) (sym same) ∙ spot-itself spot, row-past row n (lo + 1) (omega arith)) (ap (λ s. s ∷ []) (sym same)))
      (λ (ne : spot.at ≡ lo → ⊥). rw (is (in_row row lo), other-place spot row lo ne) (row-one row n (lo + 1) e (omega (arith, ne, le)) (omega arith)))
      (cases_eq spot.at lo)

  row-before : (row n lo : ℕ) → lo + n ≤ spot.at → filter P (map (in_row row) (range_with_len lo n)) ≡ []
  row-before row zero lo le = refl
  row-before row (suc n) lo le = rw (is (in_row row lo), other-place spot row lo (λ e. omega (arith, e, le))) (row-before row n (lo + 1) (omega arith))

  -- nothing passes, where the element isn't there
  none-there : (sizes : List ℕ) (lo : ℕ) → ((k : ℕ) → spot.row ≡ lo + k → get_or sizes k 0 ≤ spot.at) → filter P (spots_from lo sizes) ≡ []
  none-there [] lo h = refl
  none-there (size ∷ sizes) lo h =
      let here : filter P (map (in_row lo) (range_with_len 0 size)) ≡ [] = ⊎_elim
      (λ (e : spot.row ≡ lo). let few = h 0 (omega (arith, e)) in row-before lo size 0 (omega (arith, few)))
      (λ (ne : spot.row ≡ lo → ⊥). row-none lo size 0 ne)
      (cases_eq spot.row lo) in
      filter-append P (map (in_row lo) (range_with_len 0 size)) (spots_from (lo + 1) sizes)
      ∙ (λ i. here i ++ none-there sizes (lo + 1) (λ k e. h (suc k) (omega (arith, e))) i)

  rows-past : (sizes : List ℕ) (lo : ℕ) → spot.row < lo → filter P (spots_from lo sizes) ≡ []
  rows-past [] lo lt = refl
  rows-past (size ∷ sizes) lo lt =
      filter-append P (map (in_row lo) (range_with_len 0 size)) (spots_from (lo + 1) sizes)
      ∙ (λ i. row-none lo size 0 (λ e. omega (arith, e, lt)) i ++ rows-past sizes (lo + 1) (omega arith) i)

  one-passes : (sizes : List ℕ) (lo k : ℕ) → spot.row ≡ lo + k → spot.at < get_or sizes k 0 → filter P (spots_from lo sizes) ≡ spot ∷ []
  one-passes [] lo k e lt = absurd (omega arith)
  one-passes (size ∷ sizes) lo zero e lt =
      filter-append P (map (in_row lo) (range_with_len 0 size)) (spots_from (lo + 1) sizes)
      ∙ (λ i. row-one lo size 0 (omega arith) (omega arith) (omega arith) i ++ rows-past sizes (lo + 1) (omega arith) i)
  one-passes (size ∷ sizes) lo (suc k) e lt =
      filter-append P (map (in_row lo) (range_with_len 0 size)) (spots_from (lo + 1) sizes)
      ∙ (λ i. row-none lo size 0 (λ f. omega (arith, e, f)) i ++ one-passes sizes (lo + 1) k (omega arith) lt i)

and_true : (b : Bool) → (b && true) ≡ b
and_true true = refl
and_true false = refl

and_false : (b : Bool) → (b && false) ≡ false
and_false true = refl
and_false false = refl

-- the element alone is sent, where it is
module _ (count : ℕ) (layouts : List Layout) (spot : Spot) (p q : ℕ) where
  abbrev passes : Spot → Bool
  passes s = needs (fetch_part spot) q s && (not (owns_spot layouts q s) && (least_owner_of count layouts s == p))

  sent-alone : (s : Spot) → passes s ≡ (is_same_spot spot s && fetch_sends count layouts spot p q)
  sent-alone s = by_case (is_same_spot spot s) refl
    where
      by_case : (x : Bool) → is_same_spot spot s ≡ x → passes s ≡ (x && fetch_sends count layouts spot p q)
      by_case true e = rw e (ap (λ (t : Spot). not (owns_spot layouts q t) && (least_owner_of count layouts t == p)) (sym (same-spot spot s e)))
      by_case false e = rw e refl

module _ (count : ℕ) (layouts : List Layout) (spot : Spot) (inside : spot.at < slice_index_or (sizes layouts) spot.row 0) where
  module _ (p q : ℕ) where
    pub fetch-message : message count layouts (fetch_part spot) p q ≡ (if fetch_sends count layouts spot p q then spot ∷ [] else [])
    fetch-message = by_case (fetch_sends count layouts spot p q) (sent-alone count layouts spot p q)
      where
        by_case : (b : Bool) → ((s : Spot) → passes count layouts spot p q s ≡ (is_same_spot spot s && b))
            → filter (passes count layouts spot p q) (spots_from 0 (sizes layouts)) ≡ (if b then spot ∷ [] else [])
        by_case true is =
            one-passes (passes count layouts spot p q) spot (λ s. is s ∙ and_true (is_same_spot spot s)) (sizes layouts) 0 spot.row (omega arith) inside
        by_case false is = none-pass (passes count layouts spot p q) (spots_from 0 (sizes layouts)) (λ s. is s ∙ and_false (is_same_spot spot s))

  fetch-sends : (p q : ℕ) → part_sends count layouts (fetch_part spot) p q ≡ fetch_sends count layouts spot p q
  fetch-sends p q = ap has_any (fetch-message p q) ∙ by_case (fetch_sends count layouts spot p q)
    where
      by_case : (b : Bool) → has_any (if b then spot ∷ [] else []) ≡ b
      by_case true = refl
      by_case false = refl

  module _ (id : ℕ) (pieces : Storage) where
    pub fetch-parcels : (qs : List ℕ) → map (parcel (λ q. local_read layouts id pieces spot ∷ [])) (filter (fetch_sends count layouts spot id) qs)
        ≡ map (parcel (λ q. map (local_read layouts id pieces) (message count layouts (fetch_part spot) id q))) (filter (part_sends count layouts (fetch_part spot) id) qs)
    fetch-parcels [] = refl
    fetch-parcels (q ∷ qs) = by_case (fetch_sends count layouts spot id q) (fetch-sends id q) (fetch-message id q) (fetch-parcels qs)
      where
        by_case : (b : Bool) → part_sends count layouts (fetch_part spot) id q ≡ b → message count layouts (fetch_part spot) id q ≡ (if b then spot ∷ [] else [])
            → map (parcel (λ q. local_read layouts id pieces spot ∷ [])) (filter (fetch_sends count layouts spot id) qs)
            ≡ map (parcel (λ q. map (local_read layouts id pieces) (message count layouts (fetch_part spot) id q))) (filter (part_sends count layouts (fetch_part spot) id) qs)
            → map (parcel (λ q. local_read layouts id pieces spot ∷ [])) (if b then q ∷ filter (fetch_sends count layouts spot id) qs else filter (fetch_sends count layouts spot id) qs)
            ≡ map (parcel (λ q. map (local_read layouts id pieces) (message count layouts (fetch_part spot) id q)))
            (if part_sends count layouts (fetch_part spot) id q then q ∷ filter (part_sends count layouts (fetch_part spot) id) qs else filter (part_sends count layouts (fetch_part spot) id) qs)
        by_case true es em rest = rw es (λ i. record { to = q; body = map (local_read layouts id pieces) (sym em i) } ∷ rest i)
        by_case false es em rest = rw es rest

  pub fetch-sources : (id : ℕ) (ps : List ℕ) → filter (λ p. fetch_sends count layouts spot p id) ps ≡ filter (λ p. part_sends count layouts (fetch_part spot) p id) ps
  fetch-sources id [] = refl
  fetch-sources id (p ∷ ps) = rw (fetch-sends p id) (ap (λ l. if fetch_sends count layouts spot p id then p ∷ l else l) (fetch-sources id ps))

  first-sent : (values : List ℤ) → lookup (spot ∷ []) values spot ≡ slice_index_or values 0 (pos 0)
  first-sent [] = refl
  first-sent (v ∷ vs) = rw (spot-itself spot) refl

  pub fetch-taken : (p id : ℕ) (values : List ℤ) → fetch_sends count layouts spot p id ≡ true → lookup (message count layouts (fetch_part spot) p id) values spot ≡ slice_index_or values 0 (pos 0)
  fetch-taken p id values e = ap (λ spots. lookup spots values spot) (fetch-message p id ∙ ap (λ b. if b then spot ∷ [] else []) e) ∙ first-sent values

  pub fetch-received : (id : ℕ) (pieces : Storage) (received : List (List ℤ)) → owns_spot layouts id spot ≡ false
      → slice_index_or (slice_index_or received (least_owner_of count layouts spot) []) 0 (pos 0)
      ≡ held_or_received count layouts (λ p. message count layouts (fetch_part spot) p id) id pieces received spot
  fetch-received id pieces received other =
      let source = least_owner_of count layouts spot in
      let sends : fetch_sends count layouts spot source id ≡ true = rw (other, eq-eqb source source refl) refl in
      rw other (sym (fetch-taken source id (slice_index_or received source []) sends))

-- nobody sends an element that isn't there
module _ (count : ℕ) (layouts : List Layout) (spot : Spot) (outside : spot.at < slice_index_or (sizes layouts) spot.row 0 → ⊥) where
  nowhere-message : (p q : ℕ) → message count layouts (fetch_part spot) p q ≡ []
  nowhere-message p q = by_case (fetch_sends count layouts spot p q) (sent-alone count layouts spot p q)
    where
      few : (k : ℕ) → spot.row ≡ 0 + k → slice_index_or (sizes layouts) k 0 ≤ spot.at
      few k e =
          let here : spot.row ≡ k = omega (arith, e) in
          let past : slice_index_or (sizes layouts) spot.row 0 ≤ spot.at = omega (arith, outside) in
          subst (λ row. slice_index_or (sizes layouts) row 0 ≤ spot.at) here past

      by_case : (b : Bool) → ((s : Spot) → passes count layouts spot p q s ≡ (is_same_spot spot s && b))
          → filter (passes count layouts spot p q) (spots_from 0 (sizes layouts)) ≡ []
      by_case true is = none-there (passes count layouts spot p q) spot (λ s. is s ∙ and_true (is_same_spot spot s)) (sizes layouts) 0 few
      by_case false is = none-pass (passes count layouts spot p q) (spots_from 0 (sizes layouts)) (λ s. is s ∙ and_false (is_same_spot spot s))

  nowhere-sends : (p q : ℕ) → part_sends count layouts (fetch_part spot) p q ≡ false
  nowhere-sends p q = ap has_any (nowhere-message p q)

  pub nowhere-parcels : {A : Type 0} (f : ℕ → A) (id : ℕ) (qs : List ℕ) → [] ≡ map f (filter (part_sends count layouts (fetch_part spot) id) qs)
  nowhere-parcels f id qs = sym (ap (map f) (none-pass (part_sends count layouts (fetch_part spot) id) qs (nowhere-sends id)))

  pub nowhere-sources : (id : ℕ) (ps : List ℕ) → [] ≡ filter (λ p. part_sends count layouts (fetch_part spot) p id) ps
  nowhere-sources id ps = sym (none-pass (λ p. part_sends count layouts (fetch_part spot) p id) ps (λ p. nowhere-sends p id))

  pub nowhere-received : (id : ℕ) (pieces : Storage) (received : List (List ℤ))
      → pos 0 ≡ held_or_received count layouts (λ p. message count layouts (fetch_part spot) p id) id pieces received spot
  nowhere-received id pieces received = by_owner (owns_spot layouts id spot) refl
    where
      source : ℕ
      source = least_owner_of count layouts spot

      by_owner : (b : Bool) → owns_spot layouts id spot ≡ b
          → pos 0 ≡ (if b then local_read layouts id pieces spot else lookup (message count layouts (fetch_part spot) source id) (slice_index_or received source []) spot)
      by_owner true e = absurd (outside (spot-below layouts id spot e))
      by_owner false e = sym (ap (λ spots. lookup spots (slice_index_or received source []) spot) (nowhere-message source id))

-- numbers of nodes
one-number : (P : ℕ → Bool) (q n lo : ℕ) → ((p : ℕ) → P p ≡ (q == p)) → lo ≤ q → q < lo + n → filter P (range_with_len lo n) ≡ q ∷ []
one-number P q zero lo is le lt = absurd (omega arith)
one-number P q (suc n) lo is le lt = ⊎_elim
    (λ (e : q ≡ lo). rw (is lo, eq-eqb q lo e, past n (lo + 1) (omega arith)) (ap (λ k. k ∷ []) (sym e)))
    (λ (ne : q ≡ lo → ⊥). rw (is lo, ne_eqb q lo ne) (one-number P q n (lo + 1) is (omega (arith, ne, le)) (omega arith)))
    (cases_eq q lo)
  where
    past : (n lo : ℕ) → q < lo → filter P (range_with_len lo n) ≡ []
    past zero lo lt = refl
    past (suc n) lo lt = rw (is lo, ne_eqb q lo (λ e. omega (arith, e, lt))) (past n (lo + 1) (omega arith))

module _ (count : ℕ) (layouts : List Layout) (spot : Spot) where
  pub fetch-owned : (id : ℕ) → owns_spot layouts id spot ≡ true → [] ≡ filter (λ p. fetch_sends count layouts spot p id) (range_with_len 0 count)
  fetch-owned id own = sym (none-pass (λ p. fetch_sends count layouts spot p id) (range_with_len 0 count) (λ p. rw own refl))

  pub fetch-source : (id : ℕ) → owns_spot layouts id spot ≡ false → least_owner_of count layouts spot < count
      → least_owner_of count layouts spot ∷ [] ≡ filter (λ p. fetch_sends count layouts spot p id) (range_with_len 0 count)
  fetch-source id other lt = sym (one-number (λ p. fetch_sends count layouts spot p id) (least_owner_of count layouts spot) count 0 (λ p. rw other refl) (omega arith) (omega (arith, lt)))

  pub fetch-idle : {A : Type 0} (f : ℕ → A) (id : ℕ) → (least_owner_of count layouts spot ≡ id → ⊥) → [] ≡ map f (filter (fetch_sends count layouts spot id) (range_with_len 0 count))
  fetch-idle f id ne = sym (ap (map f) (none-pass (fetch_sends count layouts spot id) (range_with_len 0 count) (λ q. rw (ne_eqb (least_owner_of count layouts spot) id ne) (and-false (not (owns_spot layouts q spot))))))
    where
      and-false : (b : Bool) → (b && false) ≡ false
      and-false true = refl
      and-false false = refl

  pub fetch-sent : (id q : ℕ) → least_owner_of count layouts spot ≡ id → not (owns_spot layouts q spot) ≡ fetch_sends count layouts spot id q
  fetch-sent id q e = rw (eq-eqb (least_owner_of count layouts spot) id e) (and-true (not (owns_spot layouts q spot)))
    where
      and-true : (b : Bool) → b ≡ (b && true)
      and-true true = refl
      and-true false = refl
