-- A nest that is entered is parallel, where its iterations have copies.
use Rattle.std.proofs.Common.{◌≡◌, ℕ, zero, suc, ◌+◌, ◌<◌, List, [], ◌∷◌, ◌++◌, map, length, Bool, true, false, not, if◌then◌else◌, Option, Some, None, Result, Ok, Err, refl, ap, sym, ◌∙◌, subst, ℤ, arith, inl, ⊎_elim, Contains, true≢false}
use Rattle.std.proofs.lemmas.Bool.{and_parts}
use Rattle.std.proofs.lemmas.List.Elements.{Contains-append_right, Contains-append_cases}
use Rattle.op_tables.specs.Operators.{is_true}
use Rattle.storage.specs.Storage.{Storage, Spot, read}
use Rattle.storage.specs.Effect.{Effect, Skip, Put, Fail}
use Rattle.nest_order.specs.Items.{Items, EachIn}
use Rattle.nest_order.specs.Listed.{listed, AreKnown}
use Rattle.nest_order.specs.Nest.{AgreeOn, IsNamed, IsNear, IsParallel, writes, evaluated}
use Rattle.nest_order.specs.LastValue.{copy_at}
use Rattle.nest_syntax.specs.NestKinds.{Kind, has_copies, is_read}
use Rattle.nest_order.specs.Copies.{scalar_at, in_iteration, items_in, seen_by, own_spot, own_effect, with_copies, copied}
use Rattle.nest_order.proofs.Copying.{shared_of, seen-shared, seen-copy, own-shared, own-copy, copies-shared}
use Rattle.array_meaning.specs.Terms.{Term, Number, Scalar, Index, Element, Section, Apply, Reduce, Terms, NoTerm, More}
use Rattle.array_meaning.specs.Statements.{Loop, Nest, Block}
use Rattle.array_meaning.specs.Faults.{Cause, Fault, ◌>>=◌}
use Rattle.array_meaning.specs.State.{State, place_in}
use Rattle.array_meaning.specs.Expressions.{value, values}
use Rattle.array_meaning.specs.Touches.{is_known, are_known, known_truth, truth_of, assigned_in, iteration_touches, hidden_scalars}
use Rattle.array_meaning.specs.Iterations.{is_in, iteration_count, at_iteration}
use Rattle.array_meaning.specs.NestEntry.{check_nest}
use Rattle.nest_items.specs.NestItems.{Action, Condition, text_at, one, effect_in, truth_or_fault, items_of, iteration_items}
use Rattle.nest_syntax.specs.Assigning.{Assigning, ToScalar, ToElement}
use Rattle.nest_items.specs.StateStorage.{state_of}
use Rattle.nest_parts.specs.NestSpots.{spots_in, all_spots, spots_read, spots_written, element_spot, touched_in, written_in, names_of}
use Rattle.nest_items.specs.Naming.{IsNaming, AreNaming}
use Rattle.nest_items.specs.Standing.{Stands, AllStand, BlockStands, NestStands, AreKinds}
use Rattle.nest_parts.specs.NestParts.{HasRoom}
use Rattle.nest_items.proofs.Values.{value_near}
use Rattle.nest_items.proofs.Storing.{by_cases, if_so, if_not, fixed-scalar}
use Rattle.nest_parts.proofs.Nearness.{AssigningStands, effect_by_spots, value_by_spots, put_is_written}
use Rattle.nest_parts.proofs.Listings.{nothing_in, only_in, listed_mapped, Visible, block_touched}
use Rattle.nest_parts.proofs.Rows.{block_below}
use Rattle.nest_parts.proofs.EachItem.{block_each, each_in}
use Rattle.nest_parts.proofs.Clashes as clashes
use Rattle.nest_parts.proofs.Clashes.{entered_without_clash}

contains_map : {A B : Type 0} (f : A → B) (xs : List A) (x : A) → Contains xs x → Contains (map f xs) (f x)
contains_map f [] x c = absurd (nothing_in x c)
contains_map f (y ∷ xs) x (zero, lt, e) = (0, omega arith, ap f e)
contains_map f (y ∷ xs) x (suc k, lt, e) = let c = contains_map f xs x (k, omega arith, e) in (suc c.0, omega (arith, c.1), c.2)

pub contains_mapped : {A B : Type 0} (f : A → B) (xs : List A) (y : B) → Contains (map f xs) y → (x : A) × Contains xs x × (f x ≡ y)
contains_mapped f [] y c = absurd (nothing_in y c)
contains_mapped f (x ∷ xs) y (zero, lt, e) = (x, (0, omega arith, refl), e)
contains_mapped f (x ∷ xs) y (suc k, lt, e) =
    let c = contains_mapped f xs y (k, omega arith, e) in (c.0, (suc c.1.0, omega (arith, c.1.1), c.1.2), c.2)

module _ (kinds : ℕ → Kind) where
  -- a scalar with copies is one element
  abbrev pub IsSpot : Spot → Type 0
  IsSpot spot = has_copies (kinds spot.row) ≡ true → spot.at ≡ 0

  read_seen : (i : ℕ) (m : Storage) (spot : Spot) → IsSpot spot → read (seen_by kinds i m) spot ≡ read m (own_spot kinds i spot)
  read_seen i m spot is = by_cases (has_copies (kinds spot.row))
      (λ t. let same : spot ≡ scalar_at spot.row = λ j. record { row = spot.row; at = is t j } in
      subst (λ q. read (seen_by kinds i m) q ≡ read m (own_spot kinds i q)) (sym same) (seen-copy kinds i m spot.row t ∙ ap (read m) (sym (own-copy kinds i spot.row t))))
      (λ f. let k = shared_of (kinds spot.row) f in seen-shared kinds i m spot k ∙ ap (read m) (sym (own-shared kinds i spot k)))

  pub own_row : (i : ℕ) (spot : Spot) → (own_spot kinds i spot).row ≡ spot.row
  own_row i spot = of (has_copies (kinds spot.row)) where
    of : (b : Bool) → (if b then copy_at spot.row i else spot).row ≡ spot.row
    of true = refl
    of false = refl

  element_is : (a : ℕ) (r : Result ℕ Cause) (spot : Spot) → has_copies (kinds a) ≡ false → Contains (element_spot a r) spot → IsSpot spot
  element_is a (Ok p) spot c there t =
      let same = only_in (record { row = a; at = p }) spot there in absurd (true≢false (sym t ∙ ap (λ q. has_copies (kinds q.row)) (sym same) ∙ c))
  element_is a (Err e) spot c there t = absurd (nothing_in spot there)

  scalar_is : (k : ℕ) (b : Bool) (spot : Spot) → Contains (if b then scalar_at k ∷ [] else []) spot → IsSpot spot
  scalar_is k true spot there t = ap (λ q. q.at) (sym (only_in (scalar_at k) spot there))
  scalar_is k false spot there t = absurd (nothing_in spot there)

  mutual
    pub read_is : (free : ℕ → Bool) (own : Option ℕ) (s : State) (t : Term) (spot : Spot) → Stands kinds free own t → Contains (spots_in kinds s t) spot → IsSpot spot
    read_is free own s (Number v) spot h c = absurd (nothing_in spot c)
    read_is free own s (Scalar k) spot h c = scalar_is k (is_read (kinds k)) spot c
    read_is free own s (Index k) spot h c = absurd (nothing_in spot c)
    read_is free own s (Element a ts) spot h c = element_is a (values [] s ts >>= place_in s a) spot h.0 c
    read_is free own s (Section a subs) spot h c = absurd (nothing_in spot c)
    read_is free own s (Apply o ts) spot h c = reads_are free own s ts spot h c
    read_is free own s (Reduce o t) spot h c = absurd (nothing_in spot c)

    reads_are : (free : ℕ → Bool) (own : Option ℕ) (s : State) (ts : Terms) (spot : Spot) → AllStand kinds free own ts → Contains (all_spots kinds s ts) spot → IsSpot spot
    reads_are free own s NoTerm spot h c = absurd (nothing_in spot c)
    reads_are free own s (More t ts) spot h c = ⊎_elim (λ l. read_is free own s t spot h.0 l) (λ r. reads_are free own s ts spot h.1 r)
        (Contains-append_cases (spots_in kinds s t) (all_spots kinds s ts) spot c)

  pub assigning_is : (free : ℕ → Bool) (s : State) (x : Assigning) (spot : Spot) → AssigningStands kinds s free x
      → Contains (spots_read kinds s x ++ spots_written kinds s x) spot → IsSpot spot
  assigning_is free s (ToScalar k t) spot h c = ⊎_elim
      (λ l. read_is free (Some k) s t spot h.1 l)
      (λ r e. ap (λ q. q.at) (sym (only_in (scalar_at k) spot r)))
      (Contains-append_cases (spots_in kinds s t) (scalar_at k ∷ []) spot c)
  assigning_is free s (ToElement a ts t) spot h c = ⊎_elim
      (λ l. read_is free None s t spot h.2 l)
      (λ r. element_is a (values [] s ts >>= place_in s a) spot h.0 r)
      (Contains-append_cases (spots_in kinds s t) (element_spot a (values [] s ts >>= place_in s a)) spot c)

  seen_agree : (i : ℕ) (m m' : Storage) (spots : List Spot) → ((spot : Spot) → Contains spots spot → IsSpot spot) → AgreeOn (map (own_spot kinds i) spots) m m'
      → AgreeOn spots (seen_by kinds i m) (seen_by kinds i m')
  seen_agree i m m' spots are agree spot c =
      read_seen i m spot (are spot c) ∙ agree (own_spot kinds i spot) (contains_map (own_spot kinds i) spots spot c) ∙ sym (read_seen i m' spot (are spot c))

  put_by_own : (i : ℕ) (e : Effect Fault) (spot : Spot) (v : ℤ) → own_effect kinds i e ≡ Put spot v → (from : Spot) × (e ≡ Put from v) × (own_spot kinds i from ≡ spot)
  put_by_own i Skip spot v e = absurd cc
  put_by_own i (Put from w) spot v e = let value : w ≡ v = cc in let place : own_spot kinds i from ≡ spot = cc in (from, ap (Put from) value, place)
  put_by_own i (Fail f) spot v e = absurd cc

  module _ (assigned : List ℕ) (unassigned : (k : ℕ) → is_in k assigned ≡ false → has_copies (kinds k) ≡ false) where
    mutual
      known_names : (t : Term) → is_known assigned t ≡ true → IsNaming (λ k. has_copies (kinds k) ≡ false) (λ a. ⊥) t
      known_names (Number v) e = tt
      known_names (Scalar k) e = unassigned k (opposite (is_in k assigned) e) where
        opposite : (b : Bool) → not b ≡ true → b ≡ false
        opposite true e = absurd (true≢false (sym e))
        opposite false e = refl
      known_names (Index k) e = tt
      known_names (Element a ts) e = absurd (true≢false (sym e))
      known_names (Section a subs) e = tt
      known_names (Apply o ts) e = all_known_names ts e
      known_names (Reduce o t) e = absurd (true≢false (sym e))

      all_known_names : (ts : Terms) → are_known assigned ts ≡ true → AreNaming (λ k. has_copies (kinds k) ≡ false) (λ a. ⊥) ts
      all_known_names NoTerm e = tt
      all_known_names (More t ts) e = let both = and_parts (is_known assigned t) (are_known assigned ts) e in (known_names t both.0, all_known_names ts both.1)

    truth_is : (line : ℕ) (r : Result ℤ Cause) (b : Bool) → truth_of r ≡ Some b → truth_or_fault line r ≡ Ok b
    truth_is line (Ok v) b e = let same : is_true v ≡ b = cc in ap Ok same
    truth_is line (Err c) b e = absurd cc

    pub known_holds : (line : ℕ) (s : State) (t : Term) (b : Bool) → known_truth assigned s t ≡ Some b → (m : Storage)
        → truth_or_fault line (value [] (state_of kinds s m) t) ≡ Ok b
    known_holds line s t b e m = by_cases (is_known assigned t)
        (λ k. ap (truth_or_fault line) (value_near (λ k. has_copies (kinds k) ≡ false) (λ a. ⊥) (state_of kinds s m) s (λ k f. fixed-scalar kinds s m k f) (λ a f. absurd f) t (known_names t k))
        ∙ truth_is line (value [] s t) b (sym (if_so (is_known assigned t) (truth_of (value [] s t)) None k) ∙ e))
        (λ f. let z : None ≡ Some b = sym (if_not (is_known assigned t) (truth_of (value [] s t)) None f) ∙ e in absurd cc)

    -- each text of an iteration
    module _ (start : Storage) (i : ℕ) where
      action_named : (free : ℕ → Bool) (line : ℕ) (s : State) (x : Assigning) → AssigningStands kinds s free x
          → IsNamed (copied kinds (one kinds)) (touched_in kinds assigned) (written_in kinds) start (in_iteration i (text_at line s x))
      action_named free line s x h = record {
        near = λ m m' a b agree. ap (own_effect kinds i) (effect_by_spots kinds s free line x (seen_by kinds i m) (seen_by kinds i m') h
            (seen_agree i m m' (spots_read kinds s x ++ spots_written kinds s x) (λ spot c. assigning_is free s x spot h c) agree));
        stores = λ m spot v e.
            let put = put_by_own i (effect_in line x (state_of kinds s (seen_by kinds i m))) spot v e in
            let c : Contains (spots_written kinds s x) put.0 = put_is_written kinds s free line x (seen_by kinds i m) put.0 v h put.1 in (
              subst (λ q. Contains (map (own_spot kinds i) (spots_written kinds s x)) q) put.2 (contains_map (own_spot kinds i) (spots_written kinds s x) put.0 c),
              subst (λ q. Contains (map (own_spot kinds i) (spots_read kinds s x ++ spots_written kinds s x)) q) put.2
                  (contains_map (own_spot kinds i) (spots_read kinds s x ++ spots_written kinds s x) put.0 (Contains-append_right (spots_read kinds s x) (spots_written kinds s x) put.0 c)),
            );
      }

      condition_near : (free : ℕ → Bool) (line : ℕ) (s : State) (t : Term) → Stands kinds free None t
          → IsNear (copied kinds (one kinds)) (touched_in kinds assigned) (written_in kinds) start (in_iteration i (text_at line s t))
      condition_near free line s t h m m' a b agree = ap (truth_or_fault line) (value_by_spots kinds s free None (seen_by kinds i m) (seen_by kinds i m') (λ k e. absurd cc) t h
          (seen_agree i m m' (spots_in kinds s t) (λ spot c. read_is free None s t spot h c) agree))

      pub texts_named : (b : Block) (free : ℕ → Bool) (s : State) → BlockStands kinds free s b
          → EachIn (IsNamed (copied kinds (one kinds)) (touched_in kinds assigned) (written_in kinds) start)
          (IsNear (copied kinds (one kinds)) (touched_in kinds assigned) (written_in kinds) start) (items_in i (items_of s b))
      texts_named b free s h =
          let P = IsNamed (copied kinds (one kinds)) (touched_in kinds assigned) (written_in kinds) start in
          let Q = IsNear (copied kinds (one kinds)) (touched_in kinds assigned) (written_in kinds) start in
          each_in i P Q (items_of s b) (block_each kinds (λ z. Unit {0}) (λ s x p j u. tt) (λ x. P (in_iteration i x)) (λ x. Q (in_iteration i x)) (λ free line s x u. action_named free line s x) (λ free line s t u. condition_near free line s t) b free s tt h)

      pub texts_known : (b : Block) (free : ℕ → Bool) (s : State) → BlockStands kinds free s b
          → AreKnown (evaluated (copied kinds (one kinds))) (touched_in kinds assigned) (items_in i (items_of s b))
      texts_known b free s h =
          each_in i (λ x. Unit {0}) (λ x. (holds : Bool) → (touched_in kinds assigned).known x ≡ Some holds → (m : Storage) → (copied kinds (one kinds)).condition x m ≡ Ok holds) (items_of s b)
          (block_each kinds (λ z. Unit {0}) (λ s x p j u. tt) (λ x. Unit {0}) (λ x. (holds : Bool) → (touched_in kinds assigned).known (in_iteration i x) ≡ Some holds → (m : Storage) → (copied kinds (one kinds)).condition (in_iteration i x) m ≡ Ok holds)
          (λ free line s x u h. tt) (λ free line s t u h holds e m. known_holds line s t holds e (seen_by kinds i m)) b free s tt h)

    -- what is listed with copies
    pub listed_own : (i : ℕ) (xs : Items Action Condition) → listed (touched_in kinds assigned) (items_in i xs) ≡ map (own_spot kinds i) (listed (names_of kinds assigned false) xs)
    listed_own i xs = listed_mapped (own_spot kinds i) i (names_of kinds assigned false) (touched_in kinds assigned) (λ x. refl) (λ x. refl) (λ x. refl) xs

    pub written_own : (i : ℕ) (xs : Items Action Condition) → listed (writes (touched_in kinds assigned) (written_in kinds)) (items_in i xs) ≡ map (own_spot kinds i) (listed (names_of kinds assigned true) xs)
    written_own i xs = listed_mapped (own_spot kinds i) i (names_of kinds assigned true) (writes (touched_in kinds assigned) (written_in kinds)) (λ x. refl) (λ x. refl) (λ x. refl) xs

module _ (kinds : ℕ → Kind) (all : ℕ → Bool) (s : State) (nest : Nest) (loop : Loop) (block body : Block)
    (h : NestStands kinds all s nest loop block body) (are : AreKinds kinds nest body) (passed : check_nest nest body s ≡ Ok s) where
  -- what one iteration writes and another one touches
  pub apart_visible : (i i' : ℕ) (w : Bool) (spot : Spot) → i < iteration_count nest s → i' < iteration_count nest s → (i ≡ i' → ⊥)
      → Visible kinds (assigned_in body) (hidden_scalars nest) spot
      → Contains (listed (names_of kinds (assigned_in body) true) (iteration_items nest body s i)) spot
      → Contains (listed (names_of kinds (assigned_in body) w) (iteration_items nest body s i')) spot → ⊥
  apart_visible i i' w spot lt lt' differ seen c c' =
      let hidden = hidden_scalars nest in
      let x = block_touched kinds (assigned_in body) true spot body h.inside hidden (at_iteration nest s i) (h.each i lt) seen c in
      let y = block_touched kinds (assigned_in body) w spot body h.inside hidden (at_iteration nest s i') (h.each i' lt') seen c' in
      clashes.apart (iteration_touches nest body s) (iteration_count nest s) (entered_without_clash nest body s passed i lt) i i' x.touch y.touch lt lt' differ x.there y.there
      (x.name ∙ sym y.name) (x.place ∙ sym y.place) (x.writes refl)

  pub is_parallel : (start : Storage) (row : ℕ) → HasRoom kinds s nest body start row (iteration_count nest s)
      → let n = iteration_count nest s in
      IsParallel (copied kinds (one kinds)) (touched_in kinds (assigned_in body)) (written_in kinds) (with_copies kinds n start) row n (λ i. items_in i (iteration_items nest body s i))
  is_parallel start row room =
      let n = iteration_count nest s in
      record {
        named = λ i lt. texts_named kinds (assigned_in body) are.unassigned (with_copies kinds n start) i body h.inside (at_iteration nest s i) (h.each i lt);
        known = λ i lt. texts_known kinds (assigned_in body) are.unassigned (with_copies kinds n start) i body h.inside (at_iteration nest s i) (h.each i lt);
        rows = λ i number lt less. let r = room.rows i number lt less in
            subst (λ k. i < k) (sym (ap length (copies-shared kinds n start (row + number) r.0) ∙ r.1)) lt;
        below = λ i spot lt c.
            let from = contains_mapped (own_spot kinds i) (listed (names_of kinds (assigned_in body) false) (iteration_items nest body s i)) spot
            (subst (λ xs. Contains xs spot) (listed_own kinds (assigned_in body) are.unassigned i (iteration_items nest body s i)) c) in
            subst (λ q. q < row) (sym (own_row kinds i from.0) ∙ ap (λ q. q.row) from.2) (block_below kinds (assigned_in body) row from.0 body (at_iteration nest s i) room.below from.1);
        apart = λ i i' spot lt lt' differ c c'.
            let from = contains_mapped (own_spot kinds i) (listed (names_of kinds (assigned_in body) true) (iteration_items nest body s i)) spot
            (subst (λ xs. Contains xs spot) (written_own kinds (assigned_in body) are.unassigned i (iteration_items nest body s i)) c) in
            let from' = contains_mapped (own_spot kinds i') (listed (names_of kinds (assigned_in body) false) (iteration_items nest body s i')) spot
            (subst (λ xs. Contains xs spot) (listed_own kinds (assigned_in body) are.unassigned i' (iteration_items nest body s i')) c') in
            let one_row : from.0.row ≡ from'.0.row = sym (own_row kinds i from.0) ∙ ap (λ q. q.row) (from.2 ∙ sym from'.2) ∙ own_row kinds i' from'.0 in
            by_cases (has_copies (kinds from.0.row))
            (λ t. let t' : has_copies (kinds from'.0.row) ≡ true = ap (λ q. has_copies (kinds q)) (sym one_row) ∙ t in
            let here : own_spot kinds i from.0 ≡ copy_at from.0.row i = if_so (has_copies (kinds from.0.row)) (copy_at from.0.row i) from.0 t in
            let there : own_spot kinds i' from'.0 ≡ copy_at from'.0.row i' = if_so (has_copies (kinds from'.0.row)) (copy_at from'.0.row i') from'.0 t' in
            differ (ap (λ q. q.at) (sym here ∙ from.2 ∙ sym from'.2 ∙ there)))
            (λ f. let f' : has_copies (kinds from'.0.row) ≡ false = ap (λ q. has_copies (kinds q)) (sym one_row) ∙ f in
            let same : from.0 ≡ from'.0 = sym (if_not (has_copies (kinds from.0.row)) (copy_at from.0.row i) from.0 f) ∙ from.2 ∙ sym from'.2
            ∙ if_not (has_copies (kinds from'.0.row)) (copy_at from'.0.row i') from'.0 f' in
            apart_visible i i' false from.0 lt lt' differ (inl f) from.1
            (subst (λ q. Contains (listed (names_of kinds (assigned_in body) false) (iteration_items nest body s i')) q) (sym same) from'.1));
      }
