-- The last value of a scalar is the copy of the last iteration that assigned it.
use Rattle.std.proofs.Common.{◌≡◌, ℕ, zero, suc, ◌<◌, ◌≤◌, List, length, refl, ap, sym, ◌∙◌, subst, ℤ, arith, Bool, true, false, ◌⊎◌, inl, inr, ⊎_elim}
use Rattle.std.specs.Prelude.{nat_eq, ◌&&◌, ◌||◌, if◌then◌else◌}
use Rattle.std.specs.List.{Contains}
use Rattle.std.proofs.lemmas.Bool.Decides.{nat_tests}
use Rattle.storage.specs.Storage.{Storage, Spot, row_of, read, write}
use Rattle.storage.specs.Effect.{Effect, Skip, Put, Fail, apply}
use Rattle.nest_order.specs.Orders.{alone, Apart}
use Rattle.storage.specs.Parted.{parted, kept}
use Rattle.nest_order.specs.LastValue.{copy_at, note_scalar, stores_to, assigns, scalar_after, last_value}
use Rattle.storage.specs.Storage.{is_same_spot}
use Rattle.nest_order.specs.Stores.{noted, noted_by_parts}
use Rattle.storage.proofs.StorageLemmas.{read-write_other, read-write_at}
use Rattle.nest_order.proofs.Parting.{Alike-alone, kept_alone, parted_alone}

-- the test of spots, with what it shows
spot_cases : (a b : Spot) → ((is_same_spot a b ≡ true) × (a ≡ b)) ⊎ ((is_same_spot a b ≡ false) × (a ≡ b → ⊥))
spot_cases a b = of_places (nat_eq a.row b.row) refl (nat_eq a.at b.at) refl
  where
    of_places : (p : Bool) → nat_eq a.row b.row ≡ p → (q : Bool) → nat_eq a.at b.at ≡ q → ((is_same_spot a b ≡ true) × (a ≡ b)) ⊎ ((is_same_spot a b ≡ false) × (a ≡ b → ⊥))
    of_places true e true f =
        let rows : a.row ≡ b.row = grind (arith, nat_tests) in
        let positions : a.at ≡ b.at = grind (arith, nat_tests) in
        inl (ap (λ t. t && nat_eq a.at b.at) e ∙ f, λ i. record { row = rows i; at = positions i })
    of_places true e false f =
        let other : a.at ≡ b.at → ⊥ = λ h. grind (arith, nat_tests) in
        inr (ap (λ t. t && nat_eq a.at b.at) e ∙ f, λ h. other (ap (λ s. s.at) h))
    of_places false e q f =
        let other : a.row ≡ b.row → ⊥ = λ h. grind (arith, nat_tests) in
        inr (ap (λ t. t && nat_eq a.at b.at) e, λ h. other (ap (λ s. s.row) h))

module _ {F : Type 0} where
  -- one more part: the scalar follows the copy, once that was stored
  after_effect : (e : Effect F) (m : Storage) (spot : Spot) (assigned : Bool) (before v : ℤ) → spot.at < length (row_of m spot.row)
      → before ≡ (if assigned then read m spot else v) →
      (noted (λ l w b. if is_same_spot l spot then w else b) e before) ≡ (if stores_to e spot || assigned then read (apply e m) spot else v)
  after_effect Skip m spot assigned before v lt h = h
  after_effect (Fail f) m spot assigned before v lt h = h
  after_effect (Put s w) m spot assigned before v lt h = ⊎_elim
      (λ c. ap (λ t. if t then w else before) c.0
      ∙ subst (λ l. w ≡ read (write m l w) spot) (sym c.1) (sym (read-write_at m spot w lt))
      ∙ ap (λ t. if t || assigned then read (write m s w) spot else v) (sym c.0))
      (λ c. ap (λ t. if t then w else before) c.0 ∙ h
      ∙ ap (λ z. if assigned then z else v) (sym (read-write_other m s spot w c.1))
      ∙ ap (λ t. if t || assigned then read (write m s w) spot else v) (sym c.0))
      (spot_cases s spot)

  stored_at : (e : Effect F) (spot : Spot) → stores_to e spot ≡ true → (v : ℤ) × (e ≡ Put spot v)
  stored_at Skip spot h = absurd cc
  stored_at (Fail f) spot h = absurd cc
  stored_at (Put s w) spot h = ⊎_elim
      (λ c. (w, ap (λ l. Put l w) c.1))
      (λ c. let z = sym c.0 ∙ h in absurd cc)
      (spot_cases s spot)

  module _ (act : ℕ → ℕ → Storage → Effect F) (start : Storage) (n parts : ℕ) (touches : ℕ → List Spot) (free : Apart act start n parts touches)
      (row : ℕ) (within : n ≤ length (row_of start row)) where
    abbrev effect : ℕ → ℕ → Effect F
    effect = kept act start n

    copied : (i j : ℕ) → i < n → j ≤ parts → (v : ℤ)
        → noted_by_parts (note_scalar row) effect i j v ≡ (if assigns effect row i j then read (alone act start i j) (copy_at row i) else v)
    copied i zero lt le v = refl
    copied i (suc j) lt le v =
        let m = alone act start i j in
        let known = kept_alone act start n parts touches free i j lt (omega arith) in
        after_effect (effect i j) m (copy_at row i) (assigns effect row i j) (noted_by_parts (note_scalar row) effect i j v) v
        (omega (arith, (Alike-alone act start i j).extent row)) (copied i j lt (omega arith) v)
        ∙ ap (λ e. if stores_to (effect i j) (copy_at row i) || assigns effect row i j then read (apply e m) (copy_at row i) else v) known

    assigned_touches : (i j : ℕ) → i < n → j ≤ parts → assigns effect row i j ≡ true → Contains (touches i) (copy_at row i)
    assigned_touches i zero lt le h = absurd cc
    assigned_touches i (suc j) lt le h = cases (assigned_touches i j lt (omega arith)) (stores_to (effect i j) (copy_at row i)) refl
      where
        cases : (assigns effect row i j ≡ true → Contains (touches i) (copy_at row i)) → (b : Bool) → stores_to (effect i j) (copy_at row i) ≡ b
            → Contains (touches i) (copy_at row i)
        cases rec true is =
            let put = stored_at (effect i j) (copy_at row i) is in
            free.stores i j (copy_at row i) put.0 lt (omega arith) (sym (kept_alone act start n parts touches free i j lt (omega arith)) ∙ put.1)
        cases rec false is = rec (sym (ap (λ t. t || assigns effect row i j) is) ∙ h)

    scalar_is_last : (entry : ℤ) (i : ℕ) → i ≤ n → scalar_after effect row parts entry i ≡ last_value effect row parts entry (parted act start n parts) i
    scalar_is_last entry zero le = refl
    scalar_is_last entry (suc i) le =
        copied i parts (omega arith) (omega arith) (scalar_after effect row parts entry i)
        ∙ cases (scalar_is_last entry i (omega arith)) (assigns effect row i parts) refl
      where
        cases : scalar_after effect row parts entry i ≡ last_value effect row parts entry (parted act start n parts) i → (b : Bool) → assigns effect row i parts ≡ b →
            (if assigns effect row i parts then read (alone act start i parts) (copy_at row i) else scalar_after effect row parts entry i)
            ≡ (if assigns effect row i parts then read (parted act start n parts) (copy_at row i) else last_value effect row parts entry (parted act start n parts) i)
        cases rec true is =
            ap (λ b. if b then read (alone act start i parts) (copy_at row i) else scalar_after effect row parts entry i) is
            ∙ sym (parted_alone act start n parts touches free i (copy_at row i) (omega arith) (assigned_touches i parts (omega arith) (omega arith) is))
            ∙ ap (λ b. if b then read (parted act start n parts) (copy_at row i) else last_value effect row parts entry (parted act start n parts) i) (sym is)
        cases rec false is =
            ap (λ b. if b then read (alone act start i parts) (copy_at row i) else scalar_after effect row parts entry i) is
            ∙ rec
            ∙ ap (λ b. if b then read (parted act start n parts) (copy_at row i) else last_value effect row parts entry (parted act start n parts) i) (sym is)

    pub last_copy : (entry : ℤ) → scalar_after effect row parts entry n ≡ last_value effect row parts entry (parted act start n parts) n
    last_copy entry = scalar_is_last entry n (omega arith)

-- a store outside a row of copies isn't one of the scalar
pub not_noted : (row conditions i : ℕ) (spot : Spot) (value before : ℤ) → row < conditions → conditions ≤ spot.row → note_scalar row i spot value before ≡ before
not_noted row conditions i spot value before lt le = ⊎_elim
    (λ c. let z : spot.row ≡ row = ap (λ s. s.row) c.1 in absurd (omega arith))
    (λ c. ap (λ b. if b then value else before) c.0)
    (spot_cases spot (copy_at row i))
